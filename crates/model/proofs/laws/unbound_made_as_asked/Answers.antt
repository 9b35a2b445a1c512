use Rattle.model.proofs.UnboundGranting.{unbound_made_as_asked, unbound_rebuilt_over_others}
use Rattle.model.proofs.laws.unbound_made_as_asked.Goals as goal

pub returns : goal.returns
returns c = record { made = unbound_made_as_asked; rebuilt = unbound_rebuilt_over_others }
