-- How a conjunct is replaced and how a pair is merged, by induction over conjuncts.
use Rattle.std.proofs.Common.{◌≡◌, [], ◌∷◌, Some, None, Option, refl, subst, inl, inr}
use Rattle.std.specs.Option.{option_map}
use Rattle.vocabulary.specs.declared.operators.Connective.TheVariants.{And, Or}
use Rattle.meaning.specs.Columns.{Schemas}
use Rattle.meaning.specs.Conjuncts.{conjuncts, count_conjuncts, replace_first, EachConjunct}
use Rattle.meaning.specs.Fusing.{fuse, Merged, merged, keep_right, keep_left, merge}
use Rattle.meaning.specs.Hosts.{Meaning}
use Rattle.meaning.specs.LawsOfFusing.{Apart}
use Rattle.meaning.specs.Trees.{Expr, logic, node}
use Rattle.meaning.proofs.CaseSplits.{mapped_some, mapped_none, or_other_some, or_other_none}

-- an expression that is a conjunct of its own: no And
abbrev pub Single : Expr → Type 0
Single (logic And a b) = ⊥
Single (logic Or a b) = Unit {0}
Single (node f es) = Unit {0}

-- it is the list of its conjuncts, one in number, and what holds of it holds of each
pub single_conjuncts : (e : Expr) → Single e → conjuncts e ≡ e ∷ []
single_conjuncts (logic And a b) s = absurd s
single_conjuncts (logic Or a b) s = refl
single_conjuncts (node f es) s = refl

pub single_count : (e : Expr) → Single e → count_conjuncts e ≡ 1
single_count (logic And a b) s = absurd s
single_count (logic Or a b) s = refl
single_count (node f es) s = refl

pub single_each : (P : Expr → Type 0) (e : Expr) → Single e → P e → EachConjunct P e
single_each P (logic And a b) s p = absurd s
single_each P (logic Or a b) s p = p
single_each P (node f es) s p = p

-- what holds of all expressions holds of each conjunct
pub each_all : (P : Expr → Type 0) → ((e : Expr) → P e) → (e : Expr) → EachConjunct P e
each_all P f (logic And a b) = (each_all P f a, each_all P f b)
each_all P f (logic Or a b) = f (logic Or a b)
each_all P f (node g es) = f (node g es)

-- what follows for each expression follows for each conjunct
pub each_map : (P Q : Expr → Type 0) → ((e : Expr) → P e → Q e) → (e : Expr) → EachConjunct P e → EachConjunct Q e
each_map P Q f (logic And a b) h = (each_map P Q f a h.0, each_map P Q f b h.1)
each_map P Q f (logic Or a b) h = f (logic Or a b) h
each_map P Q f (node g es) h = f (node g es) h

-- nothing is replaced just where there is no answer for any conjunct
pub replace_none : (g : Expr → Option Expr) (l : Expr) → replace_first g l ≡ None → EachConjunct (λ c. g c ≡ None) l
replace_none g (logic And a b) h =
    let (p, q) =
    or_other_none (option_map (λ c. logic And c b) (replace_first g a))
    (option_map (λ c. logic And a c) (replace_first g b)) h in (
      replace_none g a (mapped_none (λ c. logic And c b) (replace_first g a) p),
      replace_none g b (mapped_none (λ c. logic And a c) (replace_first g b) q),
    )
replace_none g (logic Or a b) h = h
replace_none g (node f es) h = h

none_replaced : (g : Expr → Option Expr) (l : Expr) → EachConjunct (λ c. g c ≡ None) l → replace_first g l ≡ None
none_replaced g (logic And a b) h = simp (none_replaced g a h.0, none_replaced g b h.1)
none_replaced g (logic Or a b) h = h
none_replaced g (node f es) h = h

-- what holds of an answer in place of its conjunct, and goes up through And, holds of what replace_first gives
module _ (g : Expr → Option Expr) (Q : Expr → Expr → Type 0)
    (in_left : (a b c : Expr) → replace_first g a ≡ Some c → Q a c → Q (logic And a b) (logic And c b))
    (in_right : (a b c : Expr) → replace_first g a ≡ None → replace_first g b ≡ Some c → Q b c
    → Q (logic And a b) (logic And a c)) (here : (e k : Expr) → Single e → g e ≡ Some k → Q e k) where
  pub replace_cases : (l k : Expr) → replace_first g l ≡ Some k → Q l k
  replace_cases (logic And a b) k h =
      elim
      (or_other_some (option_map (λ c. logic And c b) (replace_first g a))
      (option_map (λ c. logic And a c) (replace_first g b)) k h) [
        | inl q ↦
            let (c, e, i) = mapped_some (λ c. logic And c b) (replace_first g a) k q in
            subst (Q (logic And a b)) i (in_left a b c e (replace_cases a c e))
        | inr q ↦
            let n = mapped_none (λ c. logic And c b) (replace_first g a) q.0 in
            let (c, e, i) = mapped_some (λ c. logic And a c) (replace_first g b) k q.1 in
            subst (Q (logic And a b)) i (in_right a b c n e (replace_cases b c e))
      ]
  replace_cases (logic Or a b) k h = here (logic Or a b) k tt h
  replace_cases (node f es) k h = here (node f es) k tt h

-- what holds of a pair that fuses at a right conjunct, and goes up through And, holds of what merge gives
module _ (m : Meaning) (ss : Schemas) (l : Expr) (Q : Expr → Merged → Type 0)
    (in_left : (a b : Expr) (y : Merged) → merge m ss l a ≡ Some y → Q a y → Q (logic And a b) (keep_right b y))
    (in_right : (a b : Expr) (y : Merged) → merge m ss l a ≡ None → merge m ss l b ≡ Some y → Q b y
    → Q (logic And a b) (keep_left a y))
    (here : (r k : Expr) → Single r → replace_first (fuse m ss r) l ≡ Some k → Q r (merged k None)) where
  merge_here : (r : Expr) (x : Merged) → Single r
      → option_map (λ k. merged k None) (replace_first (fuse m ss r) l) ≡ Some x → Q r x
  merge_here r x s h =
      let (k, e, i) = mapped_some (λ k. merged k None) (replace_first (fuse m ss r) l) x h in
      subst (Q r) i (here r k s e)

  pub merge_cases : (r : Expr) (x : Merged) → merge m ss l r ≡ Some x → Q r x
  merge_cases (logic And a b) x h =
      let left = option_map (keep_right b) (merge m ss l a) in
      let right = option_map (keep_left a) (merge m ss l b) in
      elim (or_other_some left right x h) [
        | inl q ↦
            let (y, e, i) = mapped_some (keep_right b) (merge m ss l a) x q in
            subst (Q (logic And a b)) i (in_left a b y e (merge_cases a y e))
        | inr q ↦
            let n = mapped_none (keep_right b) (merge m ss l a) q.0 in
            let (y, e, i) = mapped_some (keep_left a) (merge m ss l b) x q.1 in
            subst (Q (logic And a b)) i (in_right a b y n e (merge_cases b y e))
      ]
  merge_cases (logic Or a b) x h = merge_here (logic Or a b) x tt h
  merge_cases (node f es) x h = merge_here (node f es) x tt h

module _ (m : Meaning) (ss : Schemas) where
  -- nothing is merged just where no pair straddles the And
  pub merge_none : (l r : Expr) → merge m ss l r ≡ None → Apart m ss l r
  merge_none l (logic And a b) h =
      let left = option_map (keep_right b) (merge m ss l a) in
      let right = option_map (keep_left a) (merge m ss l b) in
      let (p, q) = or_other_none left right h in (
        merge_none l a (mapped_none (keep_right b) (merge m ss l a) p),
        merge_none l b (mapped_none (keep_left a) (merge m ss l b) q),
      )
  merge_none l (logic Or a b) h =
      replace_none (fuse m ss (logic Or a b)) l
      (mapped_none (λ k. merged k None) (replace_first (fuse m ss (logic Or a b)) l) h)
  merge_none l (node f es) h =
      replace_none (fuse m ss (node f es)) l
      (mapped_none (λ k. merged k None) (replace_first (fuse m ss (node f es)) l) h)

  pub none_merge : (l r : Expr) → Apart m ss l r → merge m ss l r ≡ None
  none_merge l (logic And a b) h = simp (none_merge l a h.0, none_merge l b h.1)
  none_merge l (logic Or a b) h = simp (none_replaced (fuse m ss (logic Or a b)) l h)
  none_merge l (node f es) h = simp (none_replaced (fuse m ss (node f es)) l h)
