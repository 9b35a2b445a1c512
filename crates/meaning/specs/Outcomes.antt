-- What evaluation comes to: a value or a fault.
use Rattle.std.specs.Prelude.{ℕ, Some, None, Option}

-- why an expression has no value
pub data Fault : Type 0 where
  -- a result outside its kind, or a zero divisor
  arithmetic : Fault
  -- a comparison or computation of unlike types
  unlike : Fault
  -- a fault of the host, by its code
  host : ℕ → Fault
  -- the expression does not bind
  malformed : Fault

-- the number of the refusal that reports the fault
abbrev pub fault_number : Fault → ℕ
fault_number arithmetic = 15
fault_number unlike = 16
fault_number (host c) = 17
fault_number malformed = 6

-- a value, or the fault that was met first
pub data Outcome (A : Type 0) : Type 0 where
  value : A → Outcome A
  fault : Fault → Outcome A

-- goes on with the value; a fault is passed on
abbrev pub then : {A B : Type 0} → Outcome A → (A → Outcome B) → Outcome B
then (value a) f = f a
then (fault x) f = fault x

-- the value, whichever the fault where there is none
abbrev pub settled : {A : Type 0} → Outcome A → Option A
settled (value a) = Some a
settled (fault x) = None

-- goes on with what there is
abbrev pub and_then : {A B : Type 0} → Option A → (A → Option B) → Option B
and_then None f = None
and_then (Some a) f = f a
