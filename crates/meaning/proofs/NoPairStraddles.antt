-- After fusing no pair straddles an And, and fusing again changes nothing.
use Rattle.std.proofs.Common.{◌≡◌, ℕ, zero, suc, ◌+◌, ◌<◌, ◌≤◌, Some, None, Option, sym, refl, ap, subst, arith}
use Rattle.vocabulary.specs.declared.operators.Connective.TheVariants.{And, Or}
use Rattle.meaning.specs.Columns.{Schemas}
use Rattle.meaning.specs.Conjuncts.{count_conjuncts, replace_first, EachConjunct}
use Rattle.meaning.specs.Fusing.{between_tree, fuse, Merged, merged, keep_right, keep_left, merge, merging_step}
use Rattle.meaning.specs.Fusing.{merging, find_between, find_between_all}
use Rattle.meaning.specs.Hosts.{Meaning}
use Rattle.meaning.specs.LawsOfFusing.{Apart, Fused, FusedAll, FusingCompletes}
use Rattle.meaning.specs.Ranges.{Range, range}
use Rattle.meaning.specs.Trees.{Expr, logic, node, Exprs, nil, cons}
use Rattle.meaning.proofs.CaseSplits.{and_then_none}
use Rattle.meaning.proofs.ConjunctCases.{Single, single_count, single_each, each_all, each_map, replace_cases}
use Rattle.meaning.proofs.ConjunctCases.{merge_cases, merge_none, none_merge}
use Rattle.meaning.proofs.RangeForms.{fuse_is_between}

module _ (m : Meaning) (ss : Schemas) where
  -- an expression that is no range comparison is in no pair
  unranged_right : (d c : Expr) → range d ≡ None → fuse m ss d c ≡ None
  unfolding fuse
  unranged_right d c h = simp h (and_then_none (range c))

  unranged_left : (d c : Expr) → range c ≡ None → fuse m ss d c ≡ None
  unfolding fuse
  unranged_left d c h = simp h

  -- a conjunct that is in no pair and in which no pair is left
  abbrev Inert : Expr → Type 0
  Inert b = (range b ≡ None) × (Fused m ss b × Single b)

  -- a Between is inert
  between_inert : (p q : Range) → Inert (between_tree p q)
  unfolding range
  between_inert p q = (refl, (((tt, tt), (tt, (tt, tt))), tt))

  fuse_inert : (d c b : Expr) → fuse m ss d c ≡ Some b → Inert b
  fuse_inert d c b h = let (p, q, e) = fuse_is_between m ss d c b h in subst Inert e (between_inert p q)

  -- what holds of each conjunct, and of the answers, holds of each once one is replaced
  replace_each : (g : Expr → Option Expr) (P : Expr → Type 0) → ((c b : Expr) → g c ≡ Some b → EachConjunct P b)
      → (l k : Expr) → replace_first g l ≡ Some k → EachConjunct P l → EachConjunct P k
  replace_each g P f =
      replace_cases g (λ l k. EachConjunct P l → EachConjunct P k) (λ a b c e i p. (i p.0, p.1))
      (λ a b c n e i p. (p.0, i p.1)) (λ e k s h p. f e k h)

  module _ (g : Expr → Option Expr) (inert : (c b : Expr) → g c ≡ Some b → Inert b) where
    inert_apart_left : (d c b : Expr) → g c ≡ Some b → EachConjunct (λ x. fuse m ss d x ≡ None) b
    inert_apart_left d c b h =
        single_each (λ x. fuse m ss d x ≡ None) b (inert c b h).1.1 (unranged_left d b (inert c b h).0)

    inert_apart_right : (a c b : Expr) → g c ≡ Some b
        → EachConjunct (λ d. EachConjunct (λ x. fuse m ss d x ≡ None) a) b
    inert_apart_right a c b h =
        single_each (λ d. EachConjunct (λ x. fuse m ss d x ≡ None) a) b (inert c b h).1.1
        (each_all (λ x. fuse m ss b x ≡ None) (λ x. unranged_right b x (inert c b h).0) a)

    -- inert answers in place of conjuncts leave no pair where there was none
    replace_fused : (l k : Expr) → replace_first g l ≡ Some k → Fused m ss l → Fused m ss k
    replace_fused =
        replace_cases g (λ l k. Fused m ss l → Fused m ss k) in_left in_right (λ e k s h p. (inert e k h).1.0)
      where
        in_left : (a b c : Expr) → replace_first g a ≡ Some c → (Fused m ss a → Fused m ss c)
            → Fused m ss (logic And a b) → Fused m ss (logic And c b)
        in_left a b c e i p = (
          (i p.0.0, p.0.1),
          each_map (λ d. EachConjunct (λ x. fuse m ss d x ≡ None) a)
              (λ d. EachConjunct (λ x. fuse m ss d x ≡ None) c)
              (λ d o. replace_each g (λ x. fuse m ss d x ≡ None) (inert_apart_left d) a c e o) b p.1,
        )

        in_right : (a b c : Expr) → replace_first g a ≡ None → replace_first g b ≡ Some c
            → (Fused m ss b → Fused m ss c) → Fused m ss (logic And a b) → Fused m ss (logic And a c)
        in_right a b c n e i p = (
          (p.0.0, i p.0.1),
          replace_each g (λ d. EachConjunct (λ x. fuse m ss d x ≡ None) a) (inert_apart_right a) b c e p.1,
        )

  -- what is left, if anything, has P
  abbrev Rest : (Expr → Type 0) → Option Expr → Type 0
  Rest P None = Unit {0}
  Rest P (Some e) = P e

  -- what is left of the right side has P
  abbrev Right : (Expr → Type 0) → Merged → Type 0
  Right P (merged k x) = Rest P x

  each_beside : (P : Expr → Type 0) (b : Expr) (x : Merged) → Right (EachConjunct P) x → EachConjunct P b
      → Right (EachConjunct P) (keep_right b x)
  each_beside P b (merged k None) h p = p
  each_beside P b (merged k (Some a)) h p = (h, p)

  each_before : (P : Expr → Type 0) (a : Expr) (x : Merged) → Right (EachConjunct P) x → EachConjunct P a
      → Right (EachConjunct P) (keep_left a x)
  each_before P a (merged k None) h p = p
  each_before P a (merged k (Some b)) h p = (p, h)

  -- what holds of each right conjunct holds of each that is left
  merge_each : (P : Expr → Type 0) (l r : Expr) (x : Merged) → merge m ss l r ≡ Some x → EachConjunct P r
      → Right (EachConjunct P) x
  merge_each P l =
      merge_cases m ss l (λ r x. EachConjunct P r → Right (EachConjunct P) x)
      (λ a b y e i p. each_beside P b y (i p.0) p.1) (λ a b y n e i p. each_before P a y (i p.1) p.0)
      (λ r k s e p. tt)

  -- no pair is left in either side
  abbrev BothFused : Merged → Type 0
  BothFused (merged k x) = Fused m ss k × Rest (Fused m ss) x

  fused_beside : (l a b : Expr) (x : Merged) → merge m ss l a ≡ Some x → BothFused x → Fused m ss b → Apart m ss a b
      → BothFused (keep_right b x)
  fused_beside l a b (merged k None) e h p o = (h.0, p)
  fused_beside l a b (merged k (Some c)) e h p o = (
    h.0,
    (
      (h.1, p),
      each_map (λ d. EachConjunct (λ x. fuse m ss d x ≡ None) a) (λ d. EachConjunct (λ x. fuse m ss d x ≡ None) c)
          (λ d i. merge_each (λ x. fuse m ss d x ≡ None) l a (merged k (Some c)) e i) b o,
    ),
  )

  fused_before : (l a b : Expr) (x : Merged) → merge m ss l b ≡ Some x → BothFused x → Fused m ss a → Apart m ss a b
      → BothFused (keep_left a x)
  fused_before l a b (merged k None) e h p o = (h.0, p)
  fused_before l a b (merged k (Some c)) e h p o = (
    h.0,
    ((p, h.1), merge_each (λ d. EachConjunct (λ x. fuse m ss d x ≡ None) a) l b (merged k (Some c)) e o),
  )

  -- a merge leaves no pair in either side where there was none
  merge_fused : (l r : Expr) (x : Merged) → merge m ss l r ≡ Some x → Fused m ss l → Fused m ss r → BothFused x
  merge_fused l r x h p =
      merge_cases m ss l (λ r x. Fused m ss r → BothFused x)
      (λ a b y e i q. fused_beside l a b y e (i q.0.0) q.0.1 q.1)
      (λ a b y n e i q. fused_before l a b y e (i q.0.1) q.0.0 q.1)
      (λ r k s e q. (replace_fused (fuse m ss r) (fuse_inert r) l k e p, tt)) r x h

  -- how many conjuncts are left
  abbrev count_rest : Option Expr → ℕ
  count_rest None = 0
  count_rest (Some e) = count_conjuncts e

  -- one right conjunct is gone
  abbrev Fewer : ℕ → Merged → Type 0
  Fewer n (merged k x) = suc (count_rest x) ≡ n

  fewer_right : (b : Expr) (n : ℕ) (x : Merged) → Fewer n x → Fewer (n + count_conjuncts b) (keep_right b x)
  fewer_right b n (merged k None) h = omega arith
  fewer_right b n (merged k (Some c)) h = omega arith

  fewer_left : (a : Expr) (n : ℕ) (x : Merged) → Fewer n x → Fewer (count_conjuncts a + n) (keep_left a x)
  fewer_left a n (merged k None) h = omega arith
  fewer_left a n (merged k (Some c)) h = omega arith

  -- a merge takes one right conjunct
  merge_fewer : (l r : Expr) (x : Merged) → merge m ss l r ≡ Some x → Fewer (count_conjuncts r) x
  merge_fewer l =
      merge_cases m ss l (λ r x. Fewer (count_conjuncts r) x) (λ a b y e i. fewer_right b (count_conjuncts a) y i)
      (λ a b y n e i. fewer_left a (count_conjuncts b) y i) (λ r k s e. sym (single_count r s))

  count_some : (e : Expr) → 0 < count_conjuncts e
  count_some (logic And a b) = omega (arith, count_some a)
  count_some (logic Or a b) = omega arith
  count_some (node f es) = omega arith

  step_fused : (more : Expr → Expr → Expr) (n : ℕ)
      → ((l r : Expr) → Fused m ss l → Fused m ss r → count_conjuncts r ≤ n → Fused m ss (more l r))
      → (l r : Expr) (x : Option Merged) → merge m ss l r ≡ x → Fused m ss l → Fused m ss r
      → count_conjuncts r ≤ suc n → Fused m ss (merging_step more l r x)
  step_fused more n f l r None e p q h = ((p, q), merge_none m ss l r e)
  step_fused more n f l r (Some (merged k None)) e p q h = (merge_fused l r (merged k None) e p q).0
  step_fused more n f l r (Some (merged k (Some d))) e p q h =
      let c = merge_fused l r (merged k (Some d)) e p q in
      let w = merge_fewer l r (merged k (Some d)) e in
      f k d c.0 c.1 (omega arith)

  -- as many merges as right conjuncts leave no pair
  merging_fused : (n : ℕ) (l r : Expr) → Fused m ss l → Fused m ss r → count_conjuncts r ≤ n
      → Fused m ss (merging m ss n l r)
  unfolding merging
  merging_fused zero l r p q h = absurd (omega (arith, count_some r))
  merging_fused (suc n) l r p q h = step_fused (merging m ss n) n (merging_fused n) l r (merge m ss l r) refl p q h

  -- where no pair straddles an And, merging leaves it
  merging_rest : (n : ℕ) (l r : Expr) → Apart m ss l r → merging m ss n l r ≡ logic And l r
  unfolding merging
  merging_rest zero l r h = refl
  merging_rest (suc n) l r h = simp (none_merge m ss l r h)

mutual
  -- fusing leaves no pair
  found_fused : (m : Meaning) (ss : Schemas) (e : Expr) → Fused m ss (find_between m ss e)
  found_fused m ss (logic And a b) =
      merging_fused m ss (count_conjuncts (find_between m ss b)) (find_between m ss a) (find_between m ss b)
      (found_fused m ss a) (found_fused m ss b) (omega arith)
  found_fused m ss (logic Or a b) = (found_fused m ss a, found_fused m ss b)
  found_fused m ss (node f es) = all_found_fused m ss es

  all_found_fused : (m : Meaning) (ss : Schemas) (es : Exprs) → FusedAll m ss (find_between_all m ss es)
  all_found_fused m ss nil = tt
  all_found_fused m ss (cons e es) = (found_fused m ss e, all_found_fused m ss es)

mutual
  -- where there is no pair, fusing changes nothing
  fused_stays : (m : Meaning) (ss : Schemas) (e : Expr) → Fused m ss e → find_between m ss e ≡ e
  fused_stays m ss (logic And a b) h =
      simp (fused_stays m ss a h.0.0, fused_stays m ss b h.0.1)
      (merging_rest m ss (count_conjuncts b) a b h.1)
  fused_stays m ss (logic Or a b) h = simp (fused_stays m ss a h.0, fused_stays m ss b h.1)
  fused_stays m ss (node f es) h = ap (node f) (all_fused_stay m ss es h)

  all_fused_stay : (m : Meaning) (ss : Schemas) (es : Exprs) → FusedAll m ss es → find_between_all m ss es ≡ es
  all_fused_stay m ss nil h = refl
  all_fused_stay m ss (cons e es) h = simp (fused_stays m ss e h.0, all_fused_stay m ss es h.1)

pub fusing_completes : FusingCompletes
fusing_completes m ss e = (found_fused m ss e, fused_stays m ss (find_between m ss e) (found_fused m ss e))
