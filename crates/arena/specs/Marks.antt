-- What a call on an attempt leaves as it was.
use Rattle.std.specs.Prelude.{◌≡◌}
use Rattle.meaning.specs.declared.host.Host.{Ghosts}
use Rattle.arena.specs.declared.attempt.Attempt.{Attempt}

-- it is of the same arena, and its marks stay
pub record KeepsItsMarks {H : Type 0} {host : Ghosts H} (old new : Attempt H host) : Type 0 where
  pub same : new.arena.ghost_name ≡ old.arena.ghost_name
  pub nodes : new.nodes ≡ old.nodes
  pub text : new.text ≡ old.text
