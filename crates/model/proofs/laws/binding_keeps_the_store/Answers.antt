use Rattle.model.proofs.BindingLaws.{binding_keeps_the_store}
use Rattle.model.proofs.laws.binding_keeps_the_store.Goals as goal

pub returns : goal.returns
returns c = binding_keeps_the_store
