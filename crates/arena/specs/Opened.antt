-- An arena's parts as values.
use Rattle.std.specs.Prelude.{ℕ, reverse}
use Rattle.meaning.specs.Columns.{Schemas}
use Rattle.model.specs.Stores.{Store}
use Rattle.arena.specs.declared.memory.Memory.{Memory}

-- how many records the memory has room for
abbrev pub records_of : Memory → ℕ
records_of m = m.nodes.limit

-- how many bytes of text
abbrev pub bytes_of : Memory → ℕ
bytes_of m = m.text.limit

-- schemas by their columns, nodes with the newest first, text, and the limits
abbrev pub store : Schemas → Memory → Store
store ss m = record {
  schemas = ss;
  nodes = reverse m.nodes.items;
  text = m.text.items;
  records = m.nodes.limit;
  bytes = m.text.limit;
}

-- an opened arena: the store, and the host that its nodes are bound against
pub record Opened (H : Type 0) : Type 0 where
  pub store : Store
  pub host : H
