-- The laws of three-valued logic, of the order of values, and of faults.
use Rattle.std.specs.Prelude.{◌≡◌, ℕ, Bool, true, false, not, ◌&&◌, List, ℤ, Some, int_lt, nat_lt}
use Rattle.vocabulary.specs.declared.operators.CompareOperator.{CompareOperator}
use Rattle.vocabulary.specs.declared.operators.Connective.{Connective}
use Rattle.vocabulary.specs.declared.refusals.BindingRefusal.TheVariants.{DoesNotBind}
use Rattle.vocabulary.specs.declared.refusals.EvaluationRefusal.TheVariants.{Arithmetic, UnlikeTypes, HostFault}
use Rattle.vocabulary.specs.declared.refusals.Refusal.TheVariants.{Binding, Evaluation}
use Rattle.vocabulary.specs.Refusals.{number_of}
use Rattle.meaning.specs.Outcomes.{arithmetic, unlike, host, malformed, fault_number}
use Rattle.meaning.specs.Values.{Value, bool, signed, unsigned, text, ext}
use Rattle.meaning.specs.Kleene.{kleene_table, lut, decides, deciding, truth, of_truth, kleene}
use Rattle.meaning.specs.Comparing.{bytes_below, below, compares, swap}

-- And and Or commute
abbrev pub KleeneCommutes : Type 0
KleeneCommutes = (o : Connective) (v w : Value) → kleene o v w ≡ kleene o w v

-- And and Or associate
abbrev pub KleeneAssociates : Type 0
KleeneAssociates = (o : Connective) (u v w : Value) → kleene o (kleene o u v) w ≡ kleene o u (kleene o v w)

-- where both operands are known, the two-valued table is the truth table
abbrev pub LutIsKleene : Type 0
LutIsKleene = (o : Connective) (x y : Bool) → kleene_table o (Some x) (Some y) ≡ Some (lut o x y)

-- a truth decides whatever the other operand is, or leaves the other operand
abbrev pub DecidingTruths : Type 0
DecidingTruths =
    (o : Connective) (x : Bool) (w : Value)
    → (decides o x ≡ true → kleene o (bool x) w ≡ bool (deciding o))
    × (decides o x ≡ false → kleene o (bool x) w ≡ of_truth (truth w))

-- false is below true, numbers go by their size, texts by their bytes
abbrev pub OrderByKind : Type 0
OrderByKind =
    ((a b : Bool) → below (bool a) (bool b) ≡ not a && b)
    × ((a b : ℤ) → below (signed a) (signed b) ≡ int_lt a b)
    × ((a b : ℕ) → below (unsigned a) (unsigned b) ≡ nat_lt a b)
    × ((a b : List ℕ) → below (text a) (text b) ≡ bytes_below a b)
    × ((e : ℕ) (a b : ℤ) → below (ext e a) (ext e b) ≡ int_lt a b)

-- a swapped comparison says the same of the operands exchanged, faults included
abbrev pub SwappingExchangesOperands : Type 0
SwappingExchangesOperands = (c : CompareOperator) (v w : Value) → compares (swap c) w v ≡ compares c v w

-- each fault has the number of the refusal that reports it, at whichever node
abbrev pub FaultNumbersAgree : Type 0
FaultNumbersAgree =
    (n c : ℕ)
    → (fault_number arithmetic ≡ number_of (Evaluation (Arithmetic n)))
    × (fault_number unlike ≡ number_of (Evaluation (UnlikeTypes n)))
    × (fault_number (host c) ≡ number_of (Evaluation (HostFault n c)))
    × (fault_number malformed ≡ number_of (Binding (DoesNotBind n)))
