use Rattle.std.proofs.Common.{◌≡◌, ℕ, true, List, IfSome, Some}
use Rattle.std.proofs.Common.{None, Option, sym}
use Rattle.vocabulary.specs.declared.types.DType.{DType}
use Rattle.vocabulary.specs.Types.{is_plain}
use Rattle.meaning.specs.Hosts.{Meaning, host_type}
use Rattle.meaning.specs.Lawful.{Lawful}

-- a lawful host's calls are of plain types
pub plain_type : (m : Meaning) (c : ℕ) (ts : List DType) (r : Option DType)
    → Lawful m → r ≡ host_type m c ts → IfSome r (λ t. is_plain t ≡ true)
plain_type m c ts None law e = tt
plain_type m c ts (Some t) law e = law.no_row c ts t (sym e)
