use Rattle.model.proofs.Adding.{steps_only_add}
use Rattle.model.proofs.Stepping.{nodes_stay}
use Rattle.model.proofs.laws.nodes_stay.Goals as goal

pub returns : goal.returns
returns c = record { added = steps_only_add; stay = nodes_stay }
