-- The meaning of a host: its functions by their codes.
use Rattle.std.specs.Prelude.{ℕ, Bool, cond, ◌&&◌, List, length, ℤ, Some, None, Option, nat_le}
use Rattle.std.specs.List.{list_all}
use Rattle.vocabulary.specs.declared.types.DType.{DType}
use Rattle.vocabulary.specs.Types.{plain_kind}
use Rattle.meaning.specs.Outcomes.{Outcome, value, fault, host, malformed}
use Rattle.meaning.specs.Lists.{nth}
use Rattle.meaning.specs.Values.{Value}

-- a value that a host can make of itself: null, or any that is no text and no row
pub data Constant : Type 0 where
  null : Constant
  bool : Bool → Constant
  signed : ℤ → Constant
  unsigned : ℕ → Constant
  ext : ℕ → ℤ → Constant

-- the value that a constant stands for
abbrev pub constant_value : Constant → Value
constant_value null = Value.null
constant_value (bool b) = Value.bool b
constant_value (signed z) = Value.signed z
constant_value (unsigned n) = Value.unsigned n
constant_value (ext e z) = Value.ext e z

-- what a function of a host replies to its arguments' values
pub data Reply : Type 0 where
  -- the value of the argument at that place, the only way to reply a text
  argument : ℕ → Reply
  -- a value of its own
  plain : Constant → Reply
  -- a fault, by its code
  fails : ℕ → Reply

-- what the rule of a function of a host answers
pub data Answer : Type 0 where
  -- no rewrite
  nothing : Answer
  -- the child at that place
  child : ℕ → Answer
  -- a literal
  constant : Constant → Answer
  -- another function of the host, over the children at those places
  other : ℕ → List ℕ → Answer

-- a host: for each code whether it is a function, which argument counts it takes, its type, its reply and its rule
pub record Meaning : Type 0 where
  pub has : ℕ → Bool
  pub takes : ℕ → ℕ → Bool
  pub types : ℕ → List DType → Option DType
  pub gives : ℕ → List Value → Reply
  -- the rule sees the arguments' types, and the values of those that are literals
  pub rule : ℕ → List DType → List (Option Value) → Answer

-- an argument's value; there is none outside the arguments
abbrev pub argument_value : Option Value → Outcome Value
argument_value None = fault malformed
argument_value (Some v) = value v

-- the value or fault that a reply to those arguments means
abbrev pub reply_value : List Value → Reply → Outcome Value
reply_value vs (argument i) = argument_value (nth vs i)
reply_value vs (plain k) = value (constant_value k)
reply_value vs (fails c) = fault (host c)

-- the value or fault of a function of the host
abbrev pub host_value : Meaning → ℕ → List Value → Outcome Value
host_value m c vs = reply_value vs (m.gives c vs)

-- each type is plain: no Row, no Extension above 15
abbrev pub all_plain : List DType → Bool
all_plain ts = list_all (λ t. plain_kind t.kind) ts

-- a call binds: a code of the host, a count that it takes, at most 8 arguments, all of plain types
abbrev pub binds : Meaning → ℕ → List DType → Bool
binds m c ts = m.has c && (m.takes c (length ts) && (nat_le (length ts) 8 && all_plain ts))

-- the type of a call, where it binds and the host has one
abbrev pub host_type : Meaning → ℕ → List DType → Option DType
host_type m c ts = cond (binds m c ts) (m.types c ts) None
