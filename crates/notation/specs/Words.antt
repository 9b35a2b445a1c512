-- Words, parted by blanks.
use Rattle.std.specs.Prelude.{ℕ, suc, Bool, cond, ◌||◌, List, [], ◌∷◌, take, drop, ◌==◌}

-- a space, a tab or a carriage return
abbrev pub is_blank : ℕ → Bool
is_blank b = b == 32 || (b == 9 || b == 13)

-- the text without the blanks in front
abbrev pub after_blanks : List ℕ → List ℕ
after_blanks [] = []
after_blanks (b ∷ bs) = cond (is_blank b) (after_blanks bs) (b ∷ bs)

-- how many bytes stand before the first blank
abbrev pub word_length : List ℕ → ℕ
word_length [] = 0
word_length (b ∷ bs) = cond (is_blank b) 0 (suc (word_length bs))

-- the word in front, and what follows it
abbrev pub word : List ℕ → List ℕ
word bs = take (word_length bs) bs

abbrev pub after_word : List ℕ → List ℕ
after_word bs = drop (word_length bs) bs
