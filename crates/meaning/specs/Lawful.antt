-- What a host has to show: its values fit, and its rules keep type and value.
use Rattle.std.specs.Prelude.{◌≡◌, ℕ, ◌<◌, Bool, true, false, cond, not, ◌&&◌, ◌||◌, List, [], ◌∷◌, length, Some}
use Rattle.std.specs.Prelude.{None, Option, ◌==◌}
use Rattle.vocabulary.specs.declared.types.DType.{DType}
use Rattle.vocabulary.specs.Types.{plain_kind}
use Rattle.meaning.specs.Outcomes.{value, settled, and_then}
use Rattle.meaning.specs.Lists.{nth, picks}
use Rattle.meaning.specs.Values.{Value, fits, all_fit}
use Rattle.meaning.specs.Hosts.{constant_value, argument, Answer, nothing, child, constant, other}
use Rattle.meaning.specs.Hosts.{Meaning, host_value, host_type}

-- the arguments' values agree with the literals that were seen
abbrev pub Agree : List (Option Value) → List Value → Type 0
Agree [] [] = Unit {0}
Agree [] (v ∷ vs) = ⊥
Agree (l ∷ ls) [] = ⊥
Agree (None ∷ ls) (v ∷ vs) = Agree ls vs
Agree (Some w ∷ ls) (v ∷ vs) = (v ≡ w) × Agree ls vs

-- the type of a rule's answer at a call of type t, over the arguments' types
abbrev pub answer_type : Meaning → DType → List DType → Answer → Option DType
answer_type m t ts nothing = Some t
answer_type m t ts (child i) = nth ts i
answer_type m t ts (constant k) = cond (fits (constant_value k) t && plain_kind t.kind) (Some t) None
answer_type m t ts (other c is) = and_then (picks ts is) (λ us. host_type m c us)

-- the value of a rule's answer at a call of the function c, over the arguments' values
abbrev pub answer_value : Meaning → ℕ → List Value → Answer → Option Value
answer_value m c vs nothing = settled (host_value m c vs)
answer_value m c vs (child i) = nth vs i
answer_value m c vs (constant k) = Some (constant_value k)
answer_value m c vs (other d is) = and_then (picks vs is) (λ ws. settled (host_value m d ws))

-- the place is one of the list
abbrev pub among : ℕ → List ℕ → Bool
among i [] = false
among i (j ∷ js) = i == j || among i js

-- no place stands twice
abbrev pub distinct : List ℕ → Bool
distinct [] = true
distinct (i ∷ is) = not (among i is) && distinct is

-- the answer has each child at most once
abbrev pub answer_once : Answer → Bool
answer_once nothing = true
answer_once (child i) = true
answer_once (constant k) = true
answer_once (other c is) = distinct is

-- the laws of a host
pub record Lawful (m : Meaning) : Type 0 where
  -- a rule's answer has each child at most once
  pub once : (c : ℕ) (ts : List DType) (ls : List (Option Value)) → answer_once (m.rule c ts ls) ≡ true
  -- no call has a Row for its type
  pub no_row : (c : ℕ) (ts : List DType) (t : DType) → host_type m c ts ≡ Some t → plain_kind t.kind ≡ true
  -- a value fits the call's type
  pub fit :
      (c : ℕ) (ts : List DType) (t : DType) (vs : List Value) (v : Value)
      → host_type m c ts ≡ Some t → all_fit vs ts ≡ true → host_value m c vs ≡ value v → fits v t ≡ true
  -- a rule's answer binds, to the same type
  pub rule_type :
      (c : ℕ) (ts : List DType) (t : DType) (ls : List (Option Value))
      → host_type m c ts ≡ Some t → answer_type m t ts (m.rule c ts ls) ≡ Some t
  -- a rule's answer has the same value wherever the call has one
  pub rule_value :
      (c : ℕ) (ts : List DType) (t : DType) (ls : List (Option Value)) (vs : List Value) (v : Value)
      → host_type m c ts ≡ Some t → all_fit vs ts ≡ true → Agree ls vs → host_value m c vs ≡ value v
      → answer_value m c vs (m.rule c ts ls) ≡ Some v

-- a host that replies an argument names one that is there
abbrev pub NamesArguments : Meaning → Type 0
NamesArguments m =
    (c i : ℕ) (ts : List DType) (t : DType) (vs : List Value)
    → host_type m c ts ≡ Some t → all_fit vs ts ≡ true → m.gives c vs ≡ argument i → i < length vs
