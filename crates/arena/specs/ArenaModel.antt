-- An opened arena as the value that its calls are defined on.
use Rattle.arena.specs.declared.arena.Arena.TheInside.{Inside}
use Rattle.arena.specs.Opened.{Opened, store}

-- its store, and the host that its nodes are bound against
abbrev pub opened : {H : Type 0} → Inside H → Opened H
opened a = record { store = store a.binder.schemas a.memory; host = a.binder.host }
