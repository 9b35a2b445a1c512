use Rattle.meaning.proofs.FusedKeepsValue.{fusing_keeps}
use Rattle.meaning.proofs.laws.rewriting.fusing_keeps.Goals as goal

pub returns : goal.returns
returns c = fusing_keeps
