-- Operand lists: by their number, and by place.
use Rattle.std.specs.Prelude.{ℕ, zero, suc, List, [], ◌∷◌, Some, None, Option}
use Rattle.meaning.specs.Outcomes.{and_then}

-- r of no operands, else d
abbrev pub of_none : {A B : Type 0} → B → B → List A → B
of_none d r [] = r
of_none d r (a ∷ ys) = d

-- f of just one operand, else d
abbrev pub of_one : {A B : Type 0} → B → (A → B) → List A → B
of_one d f [] = d
of_one d f (a ∷ []) = f a
of_one d f (a ∷ (b ∷ ys)) = d

-- f of just two operands, else d
abbrev pub of_two : {A B : Type 0} → B → (A → A → B) → List A → B
of_two d f [] = d
of_two d f (a ∷ []) = d
of_two d f (a ∷ (b ∷ [])) = f a b
of_two d f (a ∷ (b ∷ (c ∷ ys))) = d

-- f of just three operands, else d
abbrev pub of_three : {A B : Type 0} → B → (A → A → A → B) → List A → B
of_three d f [] = d
of_three d f (a ∷ []) = d
of_three d f (a ∷ (b ∷ [])) = d
of_three d f (a ∷ (b ∷ (c ∷ []))) = f a b c
of_three d f (a ∷ (b ∷ (c ∷ (e ∷ ys)))) = d

-- the one at that place, counted from 0
abbrev pub nth : {A : Type 0} → List A → ℕ → Option A
nth [] n = None
nth (a ∷ ys) zero = Some a
nth (a ∷ ys) (suc n) = nth ys n

-- those at the places, in the places' order
abbrev pub picks : {A : Type 0} → List A → List ℕ → Option (List A)
picks ys [] = Some []
picks ys (i ∷ is) = and_then (nth ys i) (λ a. and_then (picks ys is) (λ r. Some (a ∷ r)))
