-- Outcomes that no call has, and types of plain kinds.
use Rattle.std.specs.Prelude.{◌≡◌, ℕ, Bool, true, false, cond, Some, None, Option, refl}
use Rattle.std.proofs.Common.{arith}
use Rattle.vocabulary.specs.declared.types.Kind.{Kind}
use Rattle.vocabulary.specs.Types.{plain_kind, type_of}
use Rattle.meaning.specs.Hosts.{argument, fails}
use Rattle.meaning.proofs.CaseSplits.{none_some}

pub fails_argument : {B : Type 0} (c i : ℕ) → fails c ≡ argument i → B
fails_argument c i p = absurd (grind arith)

-- what is there under a test has passed it
pub under_test : {A : Type 0} (c : Bool) (x : Option A) (a : A) → cond c x None ≡ Some a → (c ≡ true) × (x ≡ Some a)
under_test true x a p = (refl, p)
under_test false x a p = none_some a p

-- a plain kind may be null
pub plain_type : (k : Kind) (n : Bool) → plain_kind k ≡ true → type_of k n ≡ record { kind = k; nullable = n }
plain_type k true p = grind arith
plain_type k false p = refl
