use Rattle.meaning.proofs.NothingGrows.{nothing_grows}
use Rattle.meaning.proofs.laws.rewriting.nothing_grows.Goals as goal

pub returns : goal.returns
returns c = nothing_grows
