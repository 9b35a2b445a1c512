-- What quotients and other results are, apart from how they are computed.
use Rattle.std.specs.Prelude.{◌≡◌, ℕ, ◌+◌, ◌-◌, ◌*◌, ◌^◌, ◌<◌, ◌≤◌, Bool, true, false, cond, ℤ, pos, negsuc, ◌+ℤ◌}
use Rattle.std.specs.Prelude.{◌-ℤ◌, ◌*ℤ◌, neg_ℤ, nat_lt}
use Rattle.vocabulary.specs.declared.operators.Arithmetic.TheVariants.{Add, Sub, Mul, Div}
use Rattle.meaning.specs.Outcomes.{Outcome, value, fault, arithmetic}
use Rattle.meaning.specs.Values.{Value, signed, unsigned, in_i64}
use Rattle.meaning.specs.Computing.{computes, magnitude}

-- zero or above
abbrev pub non_negative : ℤ → Bool
non_negative (pos n) = true
non_negative (negsuc n) = false

-- the quotient of operands of these signs is not negative, or not positive where they differ
abbrev pub signs_agree : ℤ → ℤ → ℤ → Bool
signs_agree a b q =
    cond (non_negative a) (cond (non_negative b) (non_negative q) (non_negative (neg_ℤ q)))
    (cond (non_negative b) (non_negative (neg_ℤ q)) (non_negative q))

-- q is the quotient of a and b without its fraction
pub record Truncated (a b q : ℕ) : Type 0 where
  pub covers : q * b ≤ a
  pub closest : a < (q + 1) * b

-- a quotient drops the fraction toward zero: its magnitude is that of the quotient of the magnitudes
abbrev pub QuotientsDropTheFraction : Type 0
QuotientsDropTheFraction =
    ((a b q : ℤ) → computes Div (signed a) (signed b) ≡ value (signed q)
    → Truncated (magnitude a) (magnitude b) (magnitude q) × (signs_agree a b q ≡ true))
    × ((a b q : ℕ) → computes Div (unsigned a) (unsigned b) ≡ value (unsigned q) → Truncated a b q)

-- division by zero faults, whatever is divided
abbrev pub ZeroDivisorsFault : Type 0
ZeroDivisorsFault =
    ((a : ℤ) → computes Div (signed a) (signed (pos 0)) ≡ fault arithmetic)
    × ((a : ℕ) → computes Div (unsigned a) (unsigned 0) ≡ fault arithmetic)

-- the outcome is that value where there is room for it, else a fault
abbrev pub Exact : Bool → Value → Outcome Value → Type 0
Exact room v o = (room ≡ true → o ≡ value v) × (room ≡ false → o ≡ fault arithmetic)

-- sums, differences and products are those of the whole numbers; where they pass 64 bits there is a fault
abbrev pub ResultsAreExact : Type 0
ResultsAreExact =
    ((a b : ℤ)
    → Exact (in_i64 (a +ℤ b)) (signed (a +ℤ b)) (computes Add (signed a) (signed b))
    × Exact (in_i64 (a -ℤ b)) (signed (a -ℤ b)) (computes Sub (signed a) (signed b))
    × Exact (in_i64 (a *ℤ b)) (signed (a *ℤ b)) (computes Mul (signed a) (signed b)))
    × ((a b : ℕ)
    → Exact (nat_lt (a + b) (2 ^ 64)) (unsigned (a + b)) (computes Add (unsigned a) (unsigned b))
    × Exact (nat_lt (a * b) (2 ^ 64)) (unsigned (a * b)) (computes Mul (unsigned a) (unsigned b))
    × (nat_lt a b ≡ true → computes Sub (unsigned a) (unsigned b) ≡ fault arithmetic)
    × (nat_lt a b ≡ false
    → Exact (nat_lt (a - b) (2 ^ 64)) (unsigned (a - b)) (computes Sub (unsigned a) (unsigned b))))
