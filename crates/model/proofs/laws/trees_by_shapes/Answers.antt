use Rattle.model.proofs.Regranting.{trees_by_shapes}
use Rattle.model.proofs.laws.trees_by_shapes.Goals as goal

pub returns : goal.returns
returns c = trees_by_shapes
