use Rattle.arena.proofs.FirstChildren.{the_first_decide, eight_stand_for_any}
use Rattle.arena.proofs.laws.children_are_as_eight.Goals as goal

pub returns : goal.returns
returns c = record { first = the_first_decide; eight = eight_stand_for_any }
