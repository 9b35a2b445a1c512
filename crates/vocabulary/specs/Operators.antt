-- The twelve operators and what is asked of them.
use Rattle.std.specs.Prelude.{Bool, true, false, Some, None, Option}
use Rattle.vocabulary.specs.declared.operators.Operator.{Operator}
use Rattle.vocabulary.specs.declared.operators.Operator.TheVariants.{Eq, NotEq, Gt, Gte, Lt, Lte, And, Or, Add, Sub}
use Rattle.vocabulary.specs.declared.operators.Operator.TheVariants.{Mul, Div}
use Rattle.vocabulary.specs.declared.operators.CompareOperator.TheVariants as compare
use Rattle.vocabulary.specs.declared.operators.Connective.TheVariants as connective
use Rattle.vocabulary.specs.declared.operators.Arithmetic.TheVariants as arithmetic
use Rattle.vocabulary.specs.declared.operators.Family.{Family}
use Rattle.vocabulary.specs.declared.operators.Family.TheVariants.{Compare, Connect, Compute}
use Rattle.vocabulary.specs.declared.operators.StrictComparison.{StrictComparison}
use Rattle.vocabulary.specs.declared.operators.StrictComparison.TheVariants.{Strict, NonStrict}

-- six comparisons, two connectives, four operations on numbers
abbrev pub family_of : Operator → Family
family_of Eq = Compare compare.Eq
family_of NotEq = Compare compare.NotEq
family_of Gt = Compare compare.Gt
family_of Gte = Compare compare.Gte
family_of Lt = Compare compare.Lt
family_of Lte = Compare compare.Lte
family_of And = Connect connective.And
family_of Or = Connect connective.Or
family_of Add = Compute arithmetic.Add
family_of Sub = Compute arithmetic.Sub
family_of Mul = Compute arithmetic.Mul
family_of Div = Compute arithmetic.Div

abbrev pub compares : Family → Bool
compares (Compare c) = true
compares (Connect c) = false
compares (Compute a) = false

abbrev pub computes : Family → Bool
computes (Compare c) = false
computes (Connect c) = false
computes (Compute a) = true

abbrev pub is_comparison : Operator → Bool
is_comparison o = compares (family_of o)

abbrev pub is_arithmetic : Operator → Bool
is_arithmetic o = computes (family_of o)

-- with the operands exchanged; a difference and a quotient have none
abbrev pub swapped : Operator → Option Operator
swapped Eq = Some Eq
swapped NotEq = Some NotEq
swapped Gt = Some Lt
swapped Gte = Some Lte
swapped Lt = Some Gt
swapped Lte = Some Gte
swapped And = Some And
swapped Or = Some Or
swapped Add = Some Add
swapped Sub = None
swapped Mul = Some Mul
swapped Div = None

-- the opposite comparison
abbrev pub inverted : Operator → Option Operator
inverted Eq = Some NotEq
inverted NotEq = Some Eq
inverted Gt = Some Lte
inverted Gte = Some Lt
inverted Lt = Some Gte
inverted Lte = Some Gt
inverted And = None
inverted Or = None
inverted Add = None
inverted Sub = None
inverted Mul = None
inverted Div = None

abbrev pub strict_as : StrictComparison → Operator
strict_as Strict = Lt
strict_as NonStrict = Lte

abbrev pub is_strict : StrictComparison → Bool
is_strict Strict = true
is_strict NonStrict = false
