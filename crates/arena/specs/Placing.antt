-- Room for a record and its text.
use Rattle.std.specs.Prelude.{ℕ, ◌+◌, cond, length, Ok, Err, Result, nat_le, nat_lt}
use Rattle.vocabulary.specs.declared.refusals.MemoryRefusal.{MemoryRefusal}
use Rattle.vocabulary.specs.declared.refusals.MemoryRefusal.TheVariants.{RecordsFull, TextFull}
use Rattle.vocabulary.specs.declared.values.Span.{Span}
use Rattle.arena.specs.declared.memory.Memory.{Memory}

-- the place of so many bytes behind the text, where there is room for them and for a record
abbrev pub room_in : ℕ → Memory → ℕ → Result Span MemoryRefusal
room_in place m more =
    cond (nat_lt (length m.nodes.items) m.nodes.limit)
    (cond (nat_le (length m.text.items + more) m.text.limit)
    (Ok (record { start = length m.text.items; len = more }))
    (Err (TextFull place)))
    (Err (RecordsFull place))
