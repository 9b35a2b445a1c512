-- Optimizing is refused only for a 101st round that would change a node.
use Rattle.std.proofs.Common.{◌≡◌, ℕ, zero, suc, ◌≤◌, None, Option, refl, inl, inr, arith}
use Rattle.meaning.specs.Columns.{Schemas}
use Rattle.meaning.specs.Hosts.{Meaning}
use Rattle.meaning.specs.LawsOfOptimizing.{Changing, OneOf, OneChild, Treated, RefusedOnlyForA101stRound}
use Rattle.meaning.specs.Optimizing.{rounds, map_all, map_children, optimize}
use Rattle.meaning.specs.Trees.{Expr, logic, node, Exprs, nil, cons, depth}
use Rattle.meaning.proofs.CaseSplits.{some_none, and_then_refused}
use Rattle.meaning.proofs.DepthSuffices.{depth_within, depth_down, depth_some}
use Rattle.meaning.proofs.OptimizedIsNormal.{AllOf, Children, rounds_children}
use Rattle.meaning.proofs.RoundsOfRules.{rounds_over}

-- where a list of children is refused, one of them is
one_refused : (P : Expr → Type 0) (f : Expr → Option Expr) (es : Exprs) → AllOf P es → map_all f es ≡ None
    → OneOf (λ c. P c × (f c ≡ None)) es
one_refused P f nil p h = some_none nil h
one_refused P f (cons e es) p h = elim (and_then_refused (f e) _ h) [
  | inl q ↦ inl (p.0, q)
  | inr q ↦
      elim (and_then_refused (map_all f es) _ q.2)
      [ inl o ↦ inr (one_refused P f es p.1 o) | inr o ↦ some_none _ o.2 ]
]

-- where the children of an expression are refused, one of them is
child_refused : (P : Expr → Type 0) (f : Expr → Option Expr) (e : Expr) → Children P e → map_children f e ≡ None
    → OneChild (λ c. P c × (f c ≡ None)) e
child_refused P f (logic o a b) p h = elim (and_then_refused (f a) _ h) [
  | inl q ↦ inl (p.0, q)
  | inr q ↦ elim (and_then_refused (f b) _ q.2) [ inl z ↦ inr (p.1, z) | inr z ↦ some_none _ z.2 ]
]
child_refused P f (node g es) p h =
    elim (and_then_refused (map_all f es) _ h) [ inl q ↦ one_refused P f es p q | inr q ↦ some_none _ q.2 ]

module _ (m : Meaning) (ss : Schemas) where
  -- rounds are run at a node that 101 of them change
  abbrev Over : ℕ → Expr → Type 0
  Over k e = (x : Expr) × Treated m ss k e x × Changing m ss 101 x

  one_over : (k : ℕ) (P : Expr → Type 0) → ((c : Expr) → P c → Over k c) → (es : Exprs) → OneOf P es
      → (x : Expr) × OneOf (λ c. Treated m ss k c x) es × Changing m ss 101 x
  one_over k P f nil h = absurd h
  one_over k P f (cons e es) (inl h) = let (x, t, c) = f e h in (x, inl t, c)
  one_over k P f (cons e es) (inr h) = let (x, t, c) = one_over k P f es h in (x, inr t, c)

  -- a node found below a child is found below the expression
  child_over : (k : ℕ) (P : Expr → Type 0) → ((c : Expr) → P c → Over k c) → (e : Expr) → OneChild P e
      → (x : Expr) × OneChild (λ c. Treated m ss k c x) e × Changing m ss 101 x
  child_over k P f (logic o a b) (inl h) = let (x, t, c) = f a h in (x, inl t, c)
  child_over k P f (logic o a b) (inr h) = let (x, t, c) = f b h in (x, inr t, c)
  child_over k P f (node g es) h = one_over k P f es h

pub refused_only_for_a_101st_round : RefusedOnlyForA101stRound
unfolding optimize
refused_only_for_a_101st_round m ss zero e p h = absurd (omega (arith, depth_some e))
refused_only_for_a_101st_round m ss (suc k) e p h = elim (and_then_refused (rounds m ss 100 e) _ h) [
  | inl q ↦ (e, inl refl, rounds_over m ss 100 e q)
  | inr q ↦
      let (d, i, g) = q in
      let w = (rounds_children m ss (λ c. depth c ≤ k) (depth_down k) 100 e d (depth_within k e p) i).1 in
      elim (and_then_refused (map_children (optimize m ss k) d) _ g) [
        | inl o ↦
            let (x, t, c) =
            child_over m ss k (λ c. (depth c ≤ k) × (optimize m ss k c ≡ None))
            (λ c z. refused_only_for_a_101st_round m ss k c z.0 z.1) d
            (child_refused (λ c. depth c ≤ k) (optimize m ss k) d w o) in
            (x, inr (d, i, inl t), c)
        | inr o ↦ (o.0, inr (d, i, inr o.1), rounds_over m ss 100 o.0 o.2)
      ]
]
