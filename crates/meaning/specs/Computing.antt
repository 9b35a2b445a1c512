-- The four operations on numbers.
use Rattle.std.specs.Prelude.{ℕ, suc, ◌+◌, ◌-◌, ◌*◌, ◌/◌, ◌^◌, cond, ℤ, pos, negsuc, ◌+ℤ◌, ◌-ℤ◌, ◌*ℤ◌, neg_ℤ, ◌==◌}
use Rattle.std.specs.Prelude.{nat_lt}
use Rattle.vocabulary.specs.declared.operators.Arithmetic.{Arithmetic}
use Rattle.vocabulary.specs.declared.operators.Arithmetic.TheVariants.{Add, Sub, Mul, Div}
use Rattle.meaning.specs.Outcomes.{Outcome, value, fault, arithmetic, unlike}
use Rattle.meaning.specs.Values.{Value, null, bool, signed, unsigned, text, ext, whole, in_i64}

-- a number without its sign
abbrev pub magnitude : ℤ → ℕ
magnitude (pos n) = n
magnitude (negsuc n) = suc n

-- n with the sign of the quotient of the first two
abbrev pub with_sign : ℤ → ℤ → ℕ → ℤ
with_sign (pos a) (pos b) n = pos n
with_sign (pos a) (negsuc b) n = neg_ℤ (pos n)
with_sign (negsuc a) (pos b) n = neg_ℤ (pos n)
with_sign (negsuc a) (negsuc b) n = pos n

-- an I64, or a fault where it has no room
abbrev pub signed_result : ℤ → Outcome Value
signed_result z = cond (in_i64 z) (value (signed z)) (fault arithmetic)

-- a U64, or a fault where it has no room
abbrev pub unsigned_result : ℕ → Outcome Value
unsigned_result n = cond (nat_lt n (2 ^ 64)) (value (unsigned n)) (fault arithmetic)

-- an operation on two I64; a quotient drops the fraction toward zero
unfoldable pub compute_signed : Arithmetic → ℤ → ℤ → Outcome Value
compute_signed Add a b = signed_result (a +ℤ b)
compute_signed Sub a b = signed_result (a -ℤ b)
compute_signed Mul a b = signed_result (a *ℤ b)
compute_signed Div a b =
    cond (magnitude b == 0) (fault arithmetic) (signed_result (with_sign a b (magnitude a / magnitude b)))

-- an operation on two U64
unfoldable pub compute_unsigned : Arithmetic → ℕ → ℕ → Outcome Value
compute_unsigned Add a b = unsigned_result (a + b)
compute_unsigned Sub a b = cond (nat_lt a b) (fault arithmetic) (unsigned_result (a - b))
compute_unsigned Mul a b = unsigned_result (a * b)
compute_unsigned Div a b = cond (b == 0) (fault arithmetic) (unsigned_result (a / b))

-- an operation on an I64 and a second operand
abbrev pub with_signed : Arithmetic → ℤ → Value → Outcome Value
with_signed o a null = value null
with_signed o a (bool b) = fault unlike
with_signed o a (signed z) = compute_signed o a z
with_signed o a (unsigned n) = fault unlike
with_signed o a (text bs) = fault unlike
with_signed o a (ext e z) = fault unlike
with_signed o a (whole s) = fault unlike

-- an operation on a U64 and a second operand
abbrev pub with_unsigned : Arithmetic → ℕ → Value → Outcome Value
with_unsigned o a null = value null
with_unsigned o a (bool b) = fault unlike
with_unsigned o a (signed z) = fault unlike
with_unsigned o a (unsigned n) = compute_unsigned o a n
with_unsigned o a (text bs) = fault unlike
with_unsigned o a (ext e z) = fault unlike
with_unsigned o a (whole s) = fault unlike

-- an operation on numbers: null with a null operand, a fault where the result has no room or the divisor is zero
abbrev pub computes : Arithmetic → Value → Value → Outcome Value
computes o null w = value null
computes o (bool b) w = fault unlike
computes o (signed z) w = with_signed o z w
computes o (unsigned n) w = with_unsigned o n w
computes o (text bs) w = fault unlike
computes o (ext e z) w = fault unlike
computes o (whole s) w = fault unlike
