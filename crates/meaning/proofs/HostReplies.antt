-- What a host replies: texts are those of arguments, and faults are its own.
use Rattle.std.proofs.Common.{◌≡◌, ℕ, zero, suc, ◌<◌, List, [], ◌∷◌, length, Some, None, Option, sym, refl, ap, arith}
use Rattle.meaning.specs.Hosts.{Constant, constant_value, Reply, argument, plain, fails, argument_value, reply_value}
use Rattle.meaning.specs.LawsOfHosts.{HostTextsAreArguments, HostFaultsHaveTheirNumber}
use Rattle.meaning.specs.Lists.{nth}
use Rattle.meaning.specs.Outcomes.{Fault, host, malformed, fault_number, value, fault}
use Rattle.meaning.specs.Values.{Value, text}
use Rattle.meaning.proofs.CaseSplits.{fault_value, value_same, fault_same}

argument_some : (x : Option Value) (v : Value) → argument_value x ≡ value v → x ≡ Some v
argument_some None v h = fault_value malformed v h
argument_some (Some w) v h = ap Some (value_same h)

-- no constant is a text
no_text : (k : Constant) (bs : List ℕ) → constant_value k ≡ text bs → ⊥
no_text k bs h = grind arith

-- a reply that is a text is that of an argument
text_argument : (vs : List Value) (x : Reply) (bs : List ℕ) → reply_value vs x ≡ value (text bs)
    → (i : ℕ) × (nth vs i ≡ Some (text bs))
text_argument vs (argument i) bs h = (i, argument_some (nth vs i) (text bs) h)
text_argument vs (plain k) bs h = absurd (no_text k bs (value_same h))
text_argument vs (fails c) bs h = fault_value (host c) (text bs) h

pub host_texts_are_arguments : HostTextsAreArguments
host_texts_are_arguments m c vs bs h = text_argument vs (m.gives c vs) bs h

-- the argument at a place that there is has a value
argument_there : (vs : List Value) (i : ℕ) (f : Fault) → i < length vs → argument_value (nth vs i) ≡ fault f → ⊥
argument_there [] i f p q = omega arith
argument_there (v ∷ vs) zero f p q = fault_value f v (sym q)
argument_there (v ∷ vs) (suc i) f p q = argument_there vs i f (omega arith) q

-- a reply that names arguments only where they are faults by its own code alone
host_number : (vs : List Value) (x : Reply) (f : Fault) → ((i : ℕ) → x ≡ argument i → i < length vs)
    → reply_value vs x ≡ fault f → fault_number f ≡ 17
host_number vs (argument i) f n h = absurd (argument_there vs i f (n i refl) h)
host_number vs (plain k) f n h = fault_value f (constant_value k) (sym h)
host_number vs (fails c) f n h = ap fault_number (sym (fault_same h))

pub host_faults_have_their_number : HostFaultsHaveTheirNumber
host_faults_have_their_number m na c ts t vs f p q h = host_number vs (m.gives c vs) f (λ i e. na c i ts t vs p q e) h
