-- Optimizing needs no more levels than the tree has, and gives it none.
use Rattle.std.proofs.Common.{◌≡◌, ℕ, zero, suc, ◌+◌, ◌-◌, ◌<◌, ◌≤◌, Some, None, Option, sym, refl, ap, ◌∙◌, arith}
use Rattle.meaning.specs.Columns.{Schemas}
use Rattle.meaning.specs.Hosts.{Meaning}
use Rattle.meaning.specs.LawsOfOptimizing.{DepthSuffices}
use Rattle.meaning.specs.Optimizing.{rounds, map_all, map_children, optimize}
use Rattle.meaning.specs.Outcomes.{and_then}
use Rattle.meaning.specs.Trees.{Expr, logic, node, Exprs, nil, cons, depth, depths}
use Rattle.meaning.proofs.OptimizedIsNormal.{AllOf, Children, children_mono, Still, rounds_children, optimize_still}

depths_within : (n : ℕ) (es : Exprs) → depths es ≤ n → AllOf (λ c. depth c ≤ n) es
depths_within n nil h = tt
depths_within n (cons e es) h = (omega arith, depths_within n es (omega arith))

-- the children have fewer levels
pub depth_within : (n : ℕ) (e : Expr) → depth e ≤ suc n → Children (λ c. depth c ≤ n) e
depth_within n (logic o a b) h = (omega arith, omega arith)
depth_within n (node f es) h = depths_within n es (omega arith)

-- and so no more
pub depth_down : (n : ℕ) (e : Expr) → depth e ≤ n → Children (λ c. depth c ≤ n) e
depth_down n e h = depth_within n e (omega arith)

-- an expression has a level
pub depth_some : (e : Expr) → 0 < depth e
depth_some (logic o a b) = omega arith
depth_some (node f es) = omega arith

all_agree : (P : Expr → Type 0) (f g : Expr → Option Expr) → ((e : Expr) → P e → f e ≡ g e) → (es : Exprs)
    → AllOf P es → map_all f es ≡ map_all g es
all_agree P f g h nil p = refl
all_agree P f g h (cons e es) p = simp (h e p.0, all_agree P f g h es p.1)

-- functions that agree on the children agree on the node
children_agree : (P : Expr → Type 0) (f g : Expr → Option Expr) → ((e : Expr) → P e → f e ≡ g e) → (e : Expr)
    → Children P e → map_children f e ≡ map_children g e
children_agree P f g h (logic o a b) p = simp (h a p.0, h b p.1)
children_agree P f g h (node k es) p = simp (all_agree P f g h es p)

and_then_agrees : (x : Option Expr) (f g : Expr → Option Expr) → ((a : Expr) → x ≡ Some a → f a ≡ g a)
    → and_then x f ≡ and_then x g
and_then_agrees None f g h = refl
and_then_agrees (Some a) f g h = h a refl

module _ (m : Meaning) (ss : Schemas) where
  -- one more level changes nothing
  one_more : (k : ℕ) (e : Expr) → depth e ≤ k → optimize m ss (suc k) e ≡ optimize m ss k e
  unfolding optimize
  one_more zero e h = absurd (omega (arith, depth_some e))
  one_more (suc k) e h =
      and_then_agrees (rounds m ss 100 e) _ _
      (λ a i.
      ap (λ (z : Option Expr). and_then z (rounds m ss 100))
      (children_agree (λ c. depth c ≤ k) (optimize m ss (suc k)) (optimize m ss k) (one_more k) a
      (rounds_children m ss (λ c. depth c ≤ k) (depth_down k) 100 e a (depth_within k e h) i).1))

pub depth_suffices : DepthSuffices
depth_suffices m ss zero k e h = ap (λ (z : ℕ). optimize m ss z e) (omega arith)
depth_suffices m ss (suc j) k e h =
    let i : suc j + k ≡ suc (j + k) = omega arith in
    ap (λ (z : ℕ). optimize m ss z e) i ∙ one_more m ss (j + k) e (omega arith) ∙ depth_suffices m ss j k e h

all_depth : (n : ℕ) (es : Exprs) → AllOf (λ c. depth c ≤ n) es → depths es ≤ n
all_depth n nil h = omega arith
all_depth n (cons e es) h = omega (arith, h.0, all_depth n es h.1)

-- an expression has one level more than its children
children_depth : (n : ℕ) (e : Expr) → Children (λ c. depth c ≤ n) e → depth e ≤ suc n
children_depth n (logic o a b) h = omega (arith, h.0, h.1)
children_depth n (node f es) h = omega (arith, all_depth n es h)

module _ (m : Meaning) (ss : Schemas) where
  -- a still expression has no more levels than it is still at
  still_depth : (k : ℕ) (e : Expr) → Still m ss k e → depth e ≤ k
  still_depth zero e h = absurd h
  still_depth (suc k) e h =
      children_depth k e (children_mono (Still m ss k) (λ c. depth c ≤ k) (still_depth k) e h.1)

  -- so optimizing makes no tree deeper
  pub optimize_depth : (k : ℕ) (e d : Expr) → depth e ≤ k → optimize m ss k e ≡ Some d → depth d ≤ depth e
  optimize_depth k e d p h =
      let i : (k - depth e) + depth e ≡ k = omega arith in
      still_depth (depth e) d
      (optimize_still m ss (depth e) e d
      (sym (depth_suffices m ss (k - depth e) (depth e) e (omega arith)) ∙ ap (λ (z : ℕ). optimize m ss z e) i ∙ h))
