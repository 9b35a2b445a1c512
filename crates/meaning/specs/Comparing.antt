-- The order of values, the six comparisons, and Between.
use Rattle.std.specs.Prelude.{ℕ, Bool, true, false, cond, not, ◌&&◌, ◌||◌, List, [], ◌∷◌, ℤ, pos, ◌==◌, int_lt}
use Rattle.std.specs.Prelude.{nat_lt}
use Rattle.vocabulary.specs.declared.operators.BetweenOptions.{BetweenOptions}
use Rattle.vocabulary.specs.declared.operators.CompareOperator.{CompareOperator}
use Rattle.vocabulary.specs.declared.operators.CompareOperator.TheVariants.{Eq, NotEq, Gt, Gte, Lt, Lte}
use Rattle.vocabulary.specs.declared.operators.Connective.TheVariants.{And}
use Rattle.vocabulary.specs.declared.operators.StrictComparison.{StrictComparison}
use Rattle.vocabulary.specs.declared.operators.StrictComparison.TheVariants.{Strict, NonStrict}
use Rattle.vocabulary.specs.Types.{same_kind}
use Rattle.meaning.specs.Outcomes.{Outcome, value, fault, unlike, then}
use Rattle.meaning.specs.Values.{Value, null, bool, signed, unsigned, text, ext, whole, is_null, kind_of}
use Rattle.meaning.specs.Kleene.{kleene}

-- the number that a value other than a text is ordered by
abbrev pub numeric_of : Value → ℤ
numeric_of null = pos 0
numeric_of (bool b) = cond b (pos 1) (pos 0)
numeric_of (signed z) = z
numeric_of (unsigned n) = pos n
numeric_of (text bs) = pos 0
numeric_of (ext e z) = z
numeric_of (whole s) = pos 0

-- the bytes that a text is ordered by
abbrev pub value_bytes : Value → List ℕ
value_bytes null = []
value_bytes (bool b) = []
value_bytes (signed z) = []
value_bytes (unsigned n) = []
value_bytes (text bs) = bs
value_bytes (ext e z) = []
value_bytes (whole s) = []

-- the order of texts: by the first byte that differs, a prefix smaller
abbrev pub bytes_below : List ℕ → List ℕ → Bool
bytes_below [] [] = false
bytes_below [] (y ∷ ys) = true
bytes_below (x ∷ xs) [] = false
bytes_below (x ∷ xs) (y ∷ ys) = nat_lt x y || (x == y && bytes_below xs ys)

-- the order of values of one kind: texts by their bytes, all others by a number
unfoldable pub below : Value → Value → Bool
below v w = int_lt (numeric_of v) (numeric_of w) || bytes_below (value_bytes v) (value_bytes w)

-- whether a comparison holds of two values of one kind
abbrev pub holds : CompareOperator → Value → Value → Bool
holds Eq v w = not (below v w) && not (below w v)
holds NotEq v w = below v w || below w v
holds Gt v w = below w v
holds Gte v w = not (below v w)
holds Lt v w = below v w
holds Lte v w = not (below w v)

-- both values have one kind
abbrev pub alike : Value → Value → Bool
alike v w = same_kind (kind_of v) (kind_of w)

-- a comparison: null with a null operand, a fault of unlike values, else true or false
abbrev pub compares : CompareOperator → Value → Value → Outcome Value
compares c v w =
    cond (is_null v || is_null w) (value null) (cond (alike v w) (value (bool (holds c v w))) (fault unlike))

-- the comparison that says the same of the operands exchanged
abbrev pub swap : CompareOperator → CompareOperator
swap Eq = Eq
swap NotEq = NotEq
swap Gt = Lt
swap Gte = Lte
swap Lt = Gt
swap Lte = Gte

-- the comparison with a bound: `<` where it is strict, else `<=`
abbrev pub bound_operator : StrictComparison → CompareOperator
bound_operator Strict = Lt
bound_operator NonStrict = Lte

-- Between: the Kleene And of lower bound against column and column against upper bound
abbrev pub lies_between : BetweenOptions → Value → Value → Value → Outcome Value
lies_between o x l u =
    then (compares (bound_operator o.lower_strict) l x) (λ a.
    then (compares (bound_operator o.upper_strict) x u) (λ b.
    value (kleene And a b)))
