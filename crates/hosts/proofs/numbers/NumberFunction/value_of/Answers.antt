use Rattle.std.proofs.Common.{rules}
use Rattle.hosts.proofs.numbers.NumberFunction.value_of.Goals as goal

-- abs and coalesce reply the same whatever the texts are, so with these
pub returns-in-Abs : goal.returns-in-Abs
returns-in-Abs c arena row = let e = c.abs.ensures arena row in search rules

pub returns-in-Coalesce : goal.returns-in-Coalesce
returns-in-Coalesce c arena row = let e = c.coalesce.ensures.value arena row in search rules
