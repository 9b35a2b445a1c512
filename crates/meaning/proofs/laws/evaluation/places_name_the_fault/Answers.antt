use Rattle.meaning.proofs.FaultPlaces.{places_name_the_fault}
use Rattle.meaning.proofs.laws.evaluation.places_name_the_fault.Goals as goal

pub returns : goal.returns
returns c = places_name_the_fault
