-- What holds of every host, by the form of its replies.
use Rattle.std.specs.Prelude.{◌≡◌, ℕ, true, List, Some}
use Rattle.vocabulary.specs.declared.types.DType.{DType}
use Rattle.meaning.specs.Outcomes.{Fault, fault_number, value, fault}
use Rattle.meaning.specs.Lists.{nth}
use Rattle.meaning.specs.Values.{Value, text, all_fit}
use Rattle.meaning.specs.Hosts.{Meaning, host_value, host_type}
use Rattle.meaning.specs.Lawful.{NamesArguments}

-- a text that a host gives is the text of one of its arguments
abbrev pub HostTextsAreArguments : Type 0
HostTextsAreArguments =
    (m : Meaning) (c : ℕ) (vs : List Value) (bs : List ℕ)
    → host_value m c vs ≡ value (text bs)
    → (i : ℕ) × (nth vs i ≡ Some (text bs))

-- a call that binds faults with the number of host faults alone
abbrev pub HostFaultsHaveTheirNumber : Type 0
HostFaultsHaveTheirNumber =
    (m : Meaning) → NamesArguments m
    → (c : ℕ) (ts : List DType) (t : DType) (vs : List Value) (x : Fault)
    → host_type m c ts ≡ Some t → all_fit vs ts ≡ true → host_value m c vs ≡ fault x → fault_number x ≡ 17
