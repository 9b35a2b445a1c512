use Rattle.std.proofs.Common.{◌≡◌, drop}
use Rattle.schemas.specs.Fields.{found, found_from}
use Rattle.schemas.proofs.tables.Schema.find.Given as goal

-- what is left to look at answers for the whole
abbrev pub invariant-loop-place : goal.invariant-loop-place
invariant-loop-place l = found_from l.place l.name (drop l.place l.self) ≡ found l.name l.self
