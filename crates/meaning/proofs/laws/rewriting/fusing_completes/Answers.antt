use Rattle.meaning.proofs.NoPairStraddles.{fusing_completes}
use Rattle.meaning.proofs.laws.rewriting.fusing_completes.Goals as goal

pub returns : goal.returns
returns c = fusing_completes
