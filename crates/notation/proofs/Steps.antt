-- Blanks and words, by the first place at which a test passes.
use Rattle.std.proofs.Common.{◌≡◌, ℕ, suc, ◌+◌, ◌≤◌, Bool, true, false, cond, not, List, [], ◌∷◌, length, drop}
use Rattle.std.proofs.Common.{Some, None}
use Rattle.std.proofs.Common.{ltb, sym, refl, ap, ◌∙◌, arith}
use Rattle.std.specs.List.{position, position_or_len}
use Rattle.std.specs.Option.{unwrap_or}
use Rattle.std.proofs.lemmas.Bool.{ltb-false}
use Rattle.std.proofs.lemmas.List.Recursion.{is_position_or_len}
use Rattle.std.proofs.lemmas.List.Sums.{prefix_len-le-length}
use Rattle.notation.specs.Words.{is_blank, after_blanks, word_length}

-- the first place, or else the end
or_end : (n m : ℕ) (b : Bool) → ltb n m ≡ b → n ≤ m → unwrap_or (cond b (Some n) None) m ≡ n
or_end n m true h l = refl
or_end n m false h l = omega (arith, ltb-false n m h)

first_or_end : (p : ℕ → Bool) (xs : List ℕ) → unwrap_or (position p xs) (length xs) ≡ position_or_len p xs
first_or_end p xs =
    or_end (position_or_len p xs) (length xs) _ refl (prefix_len-le-length (λ x. not (p x)) xs)

one_more : (n : ℕ) → suc n ≡ 1 + n
one_more n = omega arith

pub word_found : (xs : List ℕ) → unwrap_or (position is_blank xs) (length xs) ≡ word_length xs
word_found xs =
    let step = λ (x : ℕ) (xs : List ℕ). ap (cond (is_blank x) 0) (one_more (word_length xs)) in
    first_or_end is_blank xs ∙ sym (is_position_or_len word_length is_blank refl step xs)

-- whether the byte in front is blank or not
in_front : (b : Bool) (n x : ℕ) (xs ys : List ℕ) → ys ≡ drop n xs
    → cond b ys (x ∷ xs) ≡ drop (cond (not (not b)) (1 + n) 0) (x ∷ xs)
in_front true n x xs ys e = e ∙ ap (λ k. drop k (x ∷ xs)) (one_more n)
in_front false n x xs ys e = refl

past_blanks : (xs : List ℕ) → after_blanks xs ≡ drop (position_or_len (λ b. not (is_blank b)) xs) xs
past_blanks [] = refl
past_blanks (x ∷ xs) = in_front (is_blank x) _ x xs _ (past_blanks xs)

pub blanks_found : (xs : List ℕ)
    → drop (unwrap_or (position (λ b. not (is_blank b)) xs) (length xs)) xs ≡ after_blanks xs
blanks_found xs = ap (λ n. drop n xs) (first_or_end (λ b. not (is_blank b)) xs) ∙ sym (past_blanks xs)
