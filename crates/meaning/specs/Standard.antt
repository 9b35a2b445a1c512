-- Truth tables and predicates as ISO SQL words them, and that the definitions say the same.
use Rattle.std.specs.Prelude.{◌≡◌, ℕ, true, false, ℤ}
use Rattle.vocabulary.specs.declared.operators.Arithmetic.{Arithmetic}
use Rattle.vocabulary.specs.declared.operators.BetweenOptions.{BetweenOptions}
use Rattle.vocabulary.specs.declared.operators.CompareOperator.{CompareOperator}
use Rattle.vocabulary.specs.declared.operators.CompareOperator.TheVariants.{Eq, NotEq, Gt, Gte, Lt, Lte}
use Rattle.vocabulary.specs.declared.operators.Connective.TheVariants.{And, Or}
use Rattle.vocabulary.specs.declared.operators.Operator.TheVariants as operator
use Rattle.vocabulary.specs.Operators.{strict_as}
use Rattle.vocabulary.specs.Orders.{negated}
use Rattle.meaning.specs.Outcomes.{Outcome, value, then, settled}
use Rattle.meaning.specs.Values.{Value, null, bool, signed, unsigned, is_null}
use Rattle.meaning.specs.Kleene.{kleene, truth, of_truth}
use Rattle.meaning.specs.Comparing.{compares}
use Rattle.meaning.specs.Computing.{computes}
use Rattle.meaning.specs.Hosts.{Meaning}
use Rattle.meaning.specs.Trees.{Expr, binary, between_node}
use Rattle.meaning.specs.Evaluating.{Env, eval}

-- the truth values
pub data Truth : Type 0 where
  True : Truth
  False : Truth
  Unknown : Truth

-- the truth table of AND
abbrev pub sql_and : Truth → Truth → Truth
sql_and True True = True
sql_and True False = False
sql_and True Unknown = Unknown
sql_and False True = False
sql_and False False = False
sql_and False Unknown = False
sql_and Unknown True = Unknown
sql_and Unknown False = False
sql_and Unknown Unknown = Unknown

-- the truth table of OR
abbrev pub sql_or : Truth → Truth → Truth
sql_or True True = True
sql_or True False = True
sql_or True Unknown = True
sql_or False True = True
sql_or False False = False
sql_or False Unknown = Unknown
sql_or Unknown True = True
sql_or Unknown False = Unknown
sql_or Unknown Unknown = Unknown

-- a truth value as a value of the type Bool: unknown is null
abbrev pub truth_value : Truth → Value
truth_value True = bool true
truth_value False = bool false
truth_value Unknown = null

-- And and Or are those of the truth tables
abbrev pub TruthTablesAgree : Type 0
TruthTablesAgree =
    (x y : Truth)
    → (kleene And (truth_value x) (truth_value y) ≡ truth_value (sql_and x y))
    × (kleene Or (truth_value x) (truth_value y) ≡ truth_value (sql_or x y))

-- NOT of what a predicate comes to: null stays null
abbrev pub sql_not : Outcome Value → Outcome Value
sql_not x = then x (λ v. value (of_truth (negated (truth v))))

-- a <> b is NOT (a = b), a > b is b < a, a >= b is NOT (a < b), and a <= b is NOT (b < a)
abbrev pub ComparisonsFromTwo : Type 0
ComparisonsFromTwo =
    (a b : Value)
    → (compares NotEq a b ≡ sql_not (compares Eq a b))
    × (compares Gt a b ≡ compares Lt b a)
    × (compares Gte a b ≡ sql_not (compares Lt a b))
    × (compares Lte a b ≡ sql_not (compares Lt b a))

-- a = b is true of a value and itself, and of no two others
abbrev pub EqualValuesAreOne : Type 0
EqualValuesAreOne =
    ((a b : Value) → compares Eq a b ≡ value (bool true) → a ≡ b)
    × ((a : Value) → is_null a ≡ false → compares Eq a a ≡ value (bool true))

-- a comparison with a null operand is null
abbrev pub NullComparesToNull : Type 0
NullComparesToNull =
    (c : CompareOperator) (v : Value) → (compares c null v ≡ value null) × (compares c v null ≡ value null)

-- an operation on numbers with a null operand is null
abbrev pub NullComputesToNull : Type 0
NullComputesToNull =
    (o : Arithmetic)
    → ((v : Value) → computes o null v ≡ value null)
    × ((z : ℤ) → computes o (signed z) null ≡ value null)
    × ((n : ℕ) → computes o (unsigned n) null ≡ value null)

-- x BETWEEN a AND b is a <= x AND x <= b, with < in place of <= at a strict bound
abbrev pub BetweenIsTwoComparisons : Type 0
BetweenIsTwoComparisons =
    (m : Meaning) (r : Env) (o : BetweenOptions) (x a b : Expr)
    → settled (eval m r (between_node o x a b))
    ≡ settled (eval m r (binary operator.And
    (binary (strict_as o.lower_strict) a x)
    (binary (strict_as o.upper_strict) x b)))
