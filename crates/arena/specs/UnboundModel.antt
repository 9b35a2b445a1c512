-- The arena of unbound trees as the value that its calls are defined on.
use Rattle.std.specs.Prelude.{◌≡◌, true, [], reverse}
use Rattle.model.specs.Unbound.{UnboundStore}
use Rattle.arena.specs.declared.unbound.UnboundArena.TheInside.{Inside}
use Rattle.arena.specs.Loose.{all_loose, loosened}
use Rattle.arena.specs.Opened.{store}

-- nodes with the newest first and without their types, text, and the limits
abbrev pub nodes_and_text : Inside → UnboundStore
nodes_and_text a = loosened (store [] a.memory)

-- each of the records has the type of unbound nodes
abbrev pub IsLoose : Inside → Type 0
IsLoose a = all_loose (reverse a.memory.nodes.items) ≡ true
