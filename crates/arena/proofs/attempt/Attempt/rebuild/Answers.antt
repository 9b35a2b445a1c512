use Rattle.std.proofs.Common.{rules}
use Rattle.arena.proofs.Kept.{marked_when_rebuilt}
use Rattle.arena.proofs.attempt.Attempt.rebuild.Goals as goal

pub invariant_of-self : goal.invariant_of-self
invariant_of-self g c = search (rules, marked_when_rebuilt)
