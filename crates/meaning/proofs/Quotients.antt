-- Quotients drop the fraction toward zero, zero divisors fault, and other results are exact.
use Rattle.std.proofs.Common.{◌≡◌, ℕ, zero, suc, ◌+◌, ◌-◌, ◌*◌, ◌/◌, ◌^◌, ◌<◌, Bool, true, false, cond, eqb, ltb, ℤ}
use Rattle.std.proofs.Common.{pos, negsuc, ◌+ℤ◌, ◌-ℤ◌, ◌*ℤ◌, sym, refl, ap, ◌∙◌, div-lt_iff_lt-mul, div-mul-le_self}
use Rattle.std.proofs.Common.{arith}
use Rattle.std.proofs.lemmas.Bool.{cond-true, cond-false, eqb-false}
use Rattle.vocabulary.specs.declared.operators.Arithmetic.TheVariants.{Add, Sub, Mul, Div}
use Rattle.meaning.specs.Outcomes.{Outcome, value, fault, Fault, arithmetic}
use Rattle.meaning.specs.Values.{Value, signed, unsigned, in_i64}
use Rattle.meaning.specs.Computing.{computes, compute_signed, compute_unsigned, magnitude, with_sign}
use Rattle.meaning.specs.Computing.{signed_result, unsigned_result}
use Rattle.meaning.specs.LawsOfComputing.{Truncated, signs_agree, Exact}
use Rattle.meaning.specs.LawsOfComputing.{QuotientsDropTheFraction, ZeroDivisorsFault, ResultsAreExact}

-- the sign does not change the magnitude
magnitude_with_sign : (a b : ℤ) (n : ℕ) → magnitude (with_sign a b n) ≡ n
magnitude_with_sign (pos a) (pos b) n = refl
magnitude_with_sign (pos a) (negsuc b) zero = refl
magnitude_with_sign (pos a) (negsuc b) (suc n) = refl
magnitude_with_sign (negsuc a) (pos b) zero = refl
magnitude_with_sign (negsuc a) (pos b) (suc n) = refl
magnitude_with_sign (negsuc a) (negsuc b) n = refl

-- and has the sign that the quotient has
sign_of_quotient : (a b : ℤ) (n : ℕ) → signs_agree a b (with_sign a b n) ≡ true
sign_of_quotient (pos a) (pos b) n = refl
sign_of_quotient (pos a) (negsuc b) zero = refl
sign_of_quotient (pos a) (negsuc b) (suc n) = refl
sign_of_quotient (negsuc a) (pos b) zero = refl
sign_of_quotient (negsuc a) (pos b) (suc n) = refl
sign_of_quotient (negsuc a) (negsuc b) n = refl

-- a quotient of magnitudes
truncated : (a b : ℕ) → 0 < b → Truncated a b (a / b)
truncated a b h =
    record { covers = div-mul-le_self a b; closest = (div-lt_iff_lt-mul h).0 (omega arith) }

-- a result that there is room for
kept : {A : Type 0} (b : Bool) (v w : A) (x : Fault) → cond b (value v) (fault x) ≡ value w → v ≡ w
kept true v w x h = cc
kept false v w x h = absurd (grind arith)

-- a result past a test
passed : {A : Type 0} (b : Bool) (x : Fault) (o : Outcome A) (w : A)
    → cond b (fault x) o ≡ value w → (b ≡ false) × (o ≡ value w)
passed true x o w h = absurd (grind arith)
passed false x o w h = (refl, h)

positive : (n : ℕ) → eqb n 0 ≡ false → 0 < n
positive n h = omega (arith, eqb-false n 0 h)

signed_quotient : (a b q : ℤ) → computes Div (signed a) (signed b) ≡ value (signed q)
    → Truncated (magnitude a) (magnitude b) (magnitude q) × (signs_agree a b q ≡ true)
unfolding compute_signed
signed_quotient a b q h =
    let n = magnitude a / magnitude b in
    let p = passed (eqb (magnitude b) 0) arithmetic (signed_result (with_sign a b n)) (signed q) h in
    let same : signed (with_sign a b n) ≡ signed q =
    kept (in_i64 (with_sign a b n)) (signed (with_sign a b n)) (signed q) arithmetic p.1
    in
    let inner : with_sign a b n ≡ q = cc in
    let size : n ≡ magnitude q = sym (magnitude_with_sign a b n) ∙ ap magnitude inner in (
      rw size at (truncated (magnitude a) (magnitude b) (positive (magnitude b) p.0)),
      rw inner at (sign_of_quotient a b n),
    )

unsigned_quotient : (a b q : ℕ) → computes Div (unsigned a) (unsigned b) ≡ value (unsigned q) → Truncated a b q
unfolding compute_unsigned
unsigned_quotient a b q h =
    let p = passed (eqb b 0) arithmetic (unsigned_result (a / b)) (unsigned q) h in
    let same : unsigned (a / b) ≡ unsigned q =
    kept (ltb (a / b) (2 ^ 64)) (unsigned (a / b)) (unsigned q) arithmetic p.1
    in
    let inner : a / b ≡ q = cc in
    rw inner at (truncated a b (positive b p.0))

pub quotients_drop_the_fraction : QuotientsDropTheFraction
quotients_drop_the_fraction = (signed_quotient, unsigned_quotient)

pub zero_divisors_fault : ZeroDivisorsFault
unfolding compute_signed compute_unsigned
zero_divisors_fault = (λ a. refl, λ a. refl)

-- a result that has room, or none
exact : (room : Bool) (v : Value) → Exact room v (cond room (value v) (fault arithmetic))
exact room v = (cond-true room (value v) (fault arithmetic), cond-false room (value v) (fault arithmetic))

pub results_are_exact : ResultsAreExact
unfolding compute_signed compute_unsigned
results_are_exact = (signed_ones, unsigned_ones)
  where
    signed_ones : (a b : ℤ)
        → Exact (in_i64 (a +ℤ b)) (signed (a +ℤ b)) (computes Add (signed a) (signed b))
        × Exact (in_i64 (a -ℤ b)) (signed (a -ℤ b)) (computes Sub (signed a) (signed b))
        × Exact (in_i64 (a *ℤ b)) (signed (a *ℤ b)) (computes Mul (signed a) (signed b))
    signed_ones a b = (exact _ _, exact _ _, exact _ _)

    unsigned_ones : (a b : ℕ)
        → Exact (ltb (a + b) (2 ^ 64)) (unsigned (a + b)) (computes Add (unsigned a) (unsigned b))
        × Exact (ltb (a * b) (2 ^ 64)) (unsigned (a * b)) (computes Mul (unsigned a) (unsigned b))
        × (ltb a b ≡ true → computes Sub (unsigned a) (unsigned b) ≡ fault arithmetic)
        × (ltb a b ≡ false → Exact (ltb (a - b) (2 ^ 64)) (unsigned (a - b)) (computes Sub (unsigned a) (unsigned b)))
    unsigned_ones a b = (
      exact _ _,
      exact _ _,
      cond-true (ltb a b) (fault arithmetic) (unsigned_result (a - b)),
      λ h. rw (cond-false (ltb a b) (fault arithmetic) (unsigned_result (a - b)) h) (exact _ _),
    )

pub ruleset arithmetic_is_exact = (quotients_drop_the_fraction, zero_divisors_fault, results_are_exact)
