use Rattle.model.proofs.UnboundStepping.{empty_unbound_is_sound, unbound_steps_keep_sound, unbound_nodes_stay}
use Rattle.model.proofs.UnboundStepping.{unbound_refusals_change_nothing}
use Rattle.model.proofs.laws.unbound_nodes_stay.Goals as goal

pub returns : goal.returns
returns c = record {
  opened = empty_unbound_is_sound;
  kept = unbound_steps_keep_sound;
  stay = unbound_nodes_stay;
  leaves = unbound_refusals_change_nothing;
}
