use Rattle.std.proofs.Common.{rules}
use Rattle.hosts.proofs.numbers.NumbersHost.value_of.Goals as goal

-- the functions reply the same whatever the texts are, so with these
pub returns-in-Ok : goal.returns-in-Ok
returns-in-Ok c = let e = c.value_of.ensures c.args._texts.arena.now c.args._texts.row.now in search rules
