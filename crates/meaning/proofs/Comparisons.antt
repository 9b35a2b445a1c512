-- The order of values, comparing and computing, as the laws state them.
use Rattle.std.proofs.Common.{◌≡◌, ℕ, Bool, true, false, not, ◌&&◌, ◌||◌, eqb, ltb, List, [], ◌∷◌, sym, refl, ap}
use Rattle.std.proofs.Common.{arith}
use Rattle.std.proofs.lemmas.Bool.Decides.{nat_tests}
use Rattle.vocabulary.specs.declared.operators.CompareOperator.TheVariants.{Eq}
use Rattle.meaning.specs.Comparing.{bytes_below, below, compares}
use Rattle.meaning.specs.LawsOfValues.{OrderByKind, SwappingExchangesOperands, FaultNumbersAgree}
use Rattle.meaning.specs.Outcomes.{value}
use Rattle.meaning.specs.Standard.{ComparisonsFromTwo, EqualValuesAreOne, NullComparesToNull}
use Rattle.meaning.specs.Standard.{NullComputesToNull}
use Rattle.meaning.specs.Values.{Value, null, bool, signed, unsigned, text, ext, whole, is_null}
use Rattle.meaning.proofs.CaseSplits.{false_true}

pub order_by_kind : OrderByKind
unfolding below
order_by_kind = (λ a b. grind arith, λ a b. grind arith, λ a b. grind arith, λ a b. refl, λ e a b. grind arith)

pub swapping_exchanges_operands : SwappingExchangesOperands
swapping_exchanges_operands c v w = grind (arith, nat_tests)

pub comparisons_from_two : ComparisonsFromTwo
comparisons_from_two a b = (
  grind (arith, nat_tests),
  grind (arith, nat_tests),
  grind (arith, nat_tests),
  grind (arith, nat_tests),
)

pub null_compares_to_null : NullComparesToNull
null_compares_to_null c v = (refl, grind arith)

pub null_computes_to_null : NullComputesToNull
null_computes_to_null o = (λ v. refl, λ z. refl, λ n. refl)

pub fault_numbers_agree : FaultNumbersAgree
fault_numbers_agree n c = (refl, refl, refl, refl)

-- texts of which neither is below the other are one text
same_bytes_equal : (a b : List ℕ) → bytes_below a b ≡ false → bytes_below b a ≡ false → a ≡ b
same_bytes_equal [] [] p q = refl
same_bytes_equal [] (y ∷ ys) p q = false_true (sym p)
same_bytes_equal (x ∷ xs) [] p q = false_true (sym q)
same_bytes_equal (x ∷ xs) (y ∷ ys) p q =
    let (e, i, j) = heads x y (bytes_below xs ys) (bytes_below ys xs) p q in
    let r = same_bytes_equal xs ys i j in cc
  where
    heads : (x y : ℕ) (b c : Bool) → (ltb x y || (eqb x y && b)) ≡ false → (ltb y x || (eqb y x && c)) ≡ false
        → (x ≡ y) × (b ≡ false) × (c ≡ false)
    heads x y b c p q = (grind (arith, nat_tests), grind (arith, nat_tests), grind (arith, nat_tests))

-- no text is below itself
none_below_itself : (a : List ℕ) → bytes_below a a ≡ false
none_below_itself [] = refl
none_below_itself (x ∷ xs) = let i = none_below_itself xs in go x (bytes_below xs xs) i
  where
    go : (x : ℕ) (b : Bool) → b ≡ false → (ltb x x || (eqb x x && b)) ≡ false
    go x b p = grind (arith, nat_tests)

neither : (p q : Bool) → value (bool (not p && not q)) ≡ value (bool true) → (p ≡ false) × (q ≡ false)
neither p q h = (grind arith, grind arith)

-- values that compare as equal are the same
equal_one : (a b : Value) → compares Eq a b ≡ value (bool true) → a ≡ b
unfolding below
equal_one null b h = grind (arith, nat_tests)
equal_one (bool a) b h = grind (arith, nat_tests)
equal_one (signed a) b h = grind (arith, nat_tests)
equal_one (unsigned a) b h = grind (arith, nat_tests)
equal_one (text a) null h = grind (arith, nat_tests)
equal_one (text a) (bool b) h = grind (arith, nat_tests)
equal_one (text a) (signed b) h = grind (arith, nat_tests)
equal_one (text a) (unsigned b) h = grind (arith, nat_tests)
equal_one (text a) (text b) h =
    let (p, q) = neither (bytes_below a b) (bytes_below b a) h in ap text (same_bytes_equal a b p q)
equal_one (text a) (ext e b) h = grind (arith, nat_tests)
equal_one (text a) (whole b) h = grind (arith, nat_tests)
equal_one (ext e a) b h = grind (arith, nat_tests)
equal_one (whole a) b h = grind (arith, nat_tests)

-- a value other than null compares as equal with itself
equal_self : (a : Value) → is_null a ≡ false → compares Eq a a ≡ value (bool true)
unfolding below
equal_self null p = false_true (sym p)
equal_self (bool a) p = grind (arith, nat_tests)
equal_self (signed a) p = grind (arith, nat_tests)
equal_self (unsigned a) p = grind (arith, nat_tests)
equal_self (text a) p = rw (none_below_itself a) refl
equal_self (ext e a) p = grind (arith, nat_tests)
equal_self (whole a) p = grind (arith, nat_tests)

pub equal_values_are_one : EqualValuesAreOne
equal_values_are_one = (equal_one, equal_self)
