use Rattle.model.proofs.BindingLaws.{bound_as_asked, binding_makes_as_making}
use Rattle.model.proofs.laws.bound_as_asked.Goals as goal

pub returns : goal.returns
returns c = record { bound = bound_as_asked; made = binding_makes_as_making }
