-- What the comparisons say, by how one operand lies to the other; and the laws of swapping and inverting.
use Rattle.std.specs.Prelude.{◌≡◌, Bool, true, false, not, is_some, Some, None, Option}
use Rattle.std.specs.declared.cmp.Ordering.TheVariants.{Less, Equal, Greater}
use Rattle.std.specs.declared.cmp.Ordering.{Ordering}
use Rattle.std.specs.Ordering.{ordering_reverse}
use Rattle.vocabulary.specs.declared.operators.Operator.{Operator}
use Rattle.vocabulary.specs.declared.operators.CompareOperator.{CompareOperator}
use Rattle.vocabulary.specs.declared.operators.CompareOperator.TheVariants.{Eq, NotEq, Gt, Gte, Lt, Lte}
use Rattle.vocabulary.specs.declared.operators.Family.{Family}
use Rattle.vocabulary.specs.declared.operators.Family.TheVariants.{Compare, Connect, Compute}
use Rattle.vocabulary.specs.Operators.{family_of, is_comparison, swapped, inverted}

-- whether a comparison holds of operands that lie so
abbrev pub holds_at : CompareOperator → Ordering → Bool
holds_at Eq Less = false
holds_at Eq Equal = true
holds_at Eq Greater = false
holds_at NotEq Less = true
holds_at NotEq Equal = false
holds_at NotEq Greater = true
holds_at Gt Less = false
holds_at Gt Equal = false
holds_at Gt Greater = true
holds_at Gte Less = false
holds_at Gte Equal = true
holds_at Gte Greater = true
holds_at Lt Less = true
holds_at Lt Equal = false
holds_at Lt Greater = false
holds_at Lte Less = true
holds_at Lte Equal = true
holds_at Lte Greater = false

abbrev pub family_holds : Family → Ordering → Option Bool
family_holds (Compare c) x = Some (holds_at c x)
family_holds (Connect c) x = None
family_holds (Compute a) x = None

-- the same of any operator: none where it is no comparison
abbrev pub holds : Operator → Ordering → Option Bool
holds o x = family_holds (family_of o) x

abbrev pub negated : Option Bool → Option Bool
negated None = None
negated (Some b) = Some (not b)

-- a swapped comparison holds of the operands exchanged, whatever they are; what is swapped swaps back
abbrev pub SwappingExchangesSides : Type 0
SwappingExchangesSides =
    (o p : Operator) → swapped o ≡ Some p
    → ((x : Ordering) → holds p x ≡ holds o (ordering_reverse x)) × (swapped p ≡ Some o)

-- comparisons alone have an inverse, which holds just where they do not; what is inverted inverts back
abbrev pub InvertingNegates : Type 0
InvertingNegates =
    (o : Operator)
    → (is_some (inverted o) ≡ is_comparison o)
    × ((p : Operator) → inverted o ≡ Some p
    → ((x : Ordering) → holds p x ≡ negated (holds o x)) × (inverted p ≡ Some o))
