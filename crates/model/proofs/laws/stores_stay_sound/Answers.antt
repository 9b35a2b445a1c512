use Rattle.model.proofs.Stepping.{empty_is_sound, steps_keep_sound}
use Rattle.model.proofs.laws.stores_stay_sound.Goals as goal

pub returns : goal.returns
returns c = record { opened = empty_is_sound; kept = steps_keep_sound }
