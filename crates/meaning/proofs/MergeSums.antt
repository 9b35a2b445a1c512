-- What And adds up, merging keeps.
use Rattle.std.proofs.Common.{◌≡◌, ℕ, zero, suc, Some, None, Option, sym, refl, ap, ◌∙◌}
use Rattle.vocabulary.specs.declared.operators.Connective.TheVariants.{And}
use Rattle.meaning.specs.Columns.{Schemas}
use Rattle.meaning.specs.Conjuncts.{replace_first}
use Rattle.meaning.specs.Fusing.{fuse, Merged, merged, keep_right, keep_left, merge, merging_step, merging}
use Rattle.meaning.specs.Hosts.{Meaning}
use Rattle.meaning.specs.Trees.{Expr, logic}
use Rattle.meaning.proofs.ConjunctCases.{replace_cases, merge_cases}

-- a sum of expressions that And adds up
module _ (m : Meaning) (ss : Schemas) (A : Type 0) (add : A → A → A) (add_comm : (x y : A) → add x y ≡ add y x)
    (add_assoc : (x y z : A) → add (add x y) z ≡ add x (add y z)) (μ : Expr → A)
    (μ_and : (a b : Expr) → μ (logic And a b) ≡ add (μ a) (μ b)) where
  last_first : (x y z : A) → add (add x z) y ≡ add (add x y) z
  last_first x y z = add_assoc x z y ∙ ap (add x) (add_comm z y) ∙ sym (add_assoc x y z)

  -- an answer that adds w, in place of its conjunct, adds w to the whole
  replace_adds : (g : Expr → Option Expr) (w : A) → ((c b : Expr) → g c ≡ Some b → μ b ≡ add (μ c) w) → (l k : Expr)
      → replace_first g l ≡ Some k → μ k ≡ add (μ l) w
  replace_adds g w f = replace_cases g (λ l k. μ k ≡ add (μ l) w) in_left in_right (λ e k s h. f e k h)
    where
      in_left : (a b c : Expr) → replace_first g a ≡ Some c → μ c ≡ add (μ a) w
          → μ (logic And c b) ≡ add (μ (logic And a b)) w
      in_left a b c e i =
          μ_and c b
          ∙ ap (λ (z : A). add z (μ b)) i
          ∙ last_first (μ a) (μ b) w
          ∙ ap (λ (z : A). add z w) (sym (μ_and a b))

      in_right : (a b c : Expr) → replace_first g a ≡ None → replace_first g b ≡ Some c → μ c ≡ add (μ b) w
          → μ (logic And a c) ≡ add (μ (logic And a b)) w
      in_right a b c n e i =
          μ_and a c ∙ ap (add (μ a)) i ∙ sym (add_assoc (μ a) (μ b) w) ∙ ap (λ (z : A). add z w) (sym (μ_and a b))

  -- the sum of both sides after a merge
  abbrev total : Merged → A
  total (merged k None) = μ k
  total (merged k (Some d)) = add (μ k) (μ d)

  total_right : (b : Expr) (x : Merged) → total (keep_right b x) ≡ add (total x) (μ b)
  total_right b (merged k None) = refl
  total_right b (merged k (Some a)) = ap (add (μ k)) (μ_and a b) ∙ sym (add_assoc (μ k) (μ a) (μ b))

  total_left : (a : Expr) (x : Merged) → total (keep_left a x) ≡ add (total x) (μ a)
  total_left a (merged k None) = refl
  total_left a (merged k (Some b)) =
      ap (add (μ k)) (μ_and a b ∙ add_comm (μ a) (μ b)) ∙ sym (add_assoc (μ k) (μ b) (μ a))

  module _ (fuses : (d c b : Expr) → fuse m ss d c ≡ Some b → μ b ≡ add (μ c) (μ d)) where
    -- where the Between of a pair is the sum of the pair, a merge keeps the sum
    merge_adds : (l r : Expr) (x : Merged) → merge m ss l r ≡ Some x → total x ≡ add (μ l) (μ r)
    merge_adds l =
        merge_cases m ss l (λ r x. total x ≡ add (μ l) (μ r)) in_left in_right
        (λ r k s e. replace_adds (fuse m ss r) (μ r) (fuses r) l k e)
      where
        in_left : (a b : Expr) (y : Merged) → merge m ss l a ≡ Some y → total y ≡ add (μ l) (μ a)
            → total (keep_right b y) ≡ add (μ l) (μ (logic And a b))
        in_left a b y e i =
            total_right b y
            ∙ ap (λ (z : A). add z (μ b)) i
            ∙ add_assoc (μ l) (μ a) (μ b)
            ∙ ap (add (μ l)) (sym (μ_and a b))

        in_right : (a b : Expr) (y : Merged) → merge m ss l a ≡ None → merge m ss l b ≡ Some y
            → total y ≡ add (μ l) (μ b) → total (keep_left a y) ≡ add (μ l) (μ (logic And a b))
        in_right a b y n e i =
            total_left a y
            ∙ ap (λ (z : A). add z (μ a)) i
            ∙ add_assoc (μ l) (μ b) (μ a)
            ∙ ap (add (μ l)) (add_comm (μ b) (μ a) ∙ sym (μ_and a b))

    step_adds : (more : Expr → Expr → Expr) → ((l r : Expr) → μ (more l r) ≡ add (μ l) (μ r))
        → (l r : Expr) (x : Option Merged) → merge m ss l r ≡ x → μ (merging_step more l r x) ≡ add (μ l) (μ r)
    step_adds more f l r None e = μ_and l r
    step_adds more f l r (Some (merged k None)) e = merge_adds l r (merged k None) e
    step_adds more f l r (Some (merged k (Some d))) e = f k d ∙ merge_adds l r (merged k (Some d)) e

    -- so do all merges
    pub merging_adds : (n : ℕ) (l r : Expr) → μ (merging m ss n l r) ≡ add (μ l) (μ r)
    unfolding merging
    merging_adds zero l r = μ_and l r
    merging_adds (suc n) l r = step_adds (merging m ss n) (merging_adds n) l r (merge m ss l r) refl
