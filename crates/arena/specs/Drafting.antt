-- The record of a node that is asked for, check by check in the order of the refusals' numbers.
use Rattle.std.specs.Prelude.{ℕ, List, [], Ok, Err, Result}
use Rattle.vocabulary.specs.declared.nodes.Function.{Function}
use Rattle.vocabulary.specs.Nodes.{BoundNode as Node}
use Rattle.vocabulary.specs.declared.refusals.BindingRefusal.{BindingRefusal}
use Rattle.vocabulary.specs.declared.refusals.MemoryRefusal.{MemoryRefusal}
use Rattle.vocabulary.specs.declared.refusals.Refusal.{Refusal}
use Rattle.vocabulary.specs.declared.refusals.Refusal.TheVariants.{Memory, Binding}
use Rattle.vocabulary.specs.declared.values.Span.{Span}
use Rattle.vocabulary.specs.Nodes.{recorded}
use Rattle.model.specs.Making.{looked_up, named}
use Rattle.model.specs.Stores.{Store}
use Rattle.model.specs.Wanted.{New}
use Rattle.typing.specs.Typing.{Typing}
use Rattle.arena.specs.declared.bounds.Bound.{Bound}
use Rattle.arena.specs.declared.bounds.Kin.{Kin}
use Rattle.arena.specs.declared.memory.Memory.{Memory as Held}
use Rattle.arena.specs.Opened.{store}
use Rattle.arena.specs.Placing.{room_in}
use Rattle.arena.specs.Surveying.{surveyed, no_kin, deeper, larger}

-- goes on with an answer; a refusal is passed on
abbrev pub then : {X Y : Type 0} → Result X Refusal → (X → Result Y Refusal) → Result Y Refusal
then (Ok x) next = next x
then (Err e) next = Err e

-- the same of a refusal of memory
abbrev pub in_memory : {X Y : Type 0} → Result X MemoryRefusal → (X → Result Y Refusal) → Result Y Refusal
in_memory (Ok x) next = next x
in_memory (Err e) next = Err (Memory e)

-- the same of a refusal of binding
abbrev pub in_binding : {X Y : Type 0} → Result X BindingRefusal → (X → Result Y Refusal) → Result Y Refusal
in_binding (Ok x) next = next x
in_binding (Err e) next = Err (Binding e)

-- type, depth and size over so many children that come to k
abbrev pub bound_over : Typing → ℕ → New → ℕ → Kin → Result Bound Refusal
bound_over typing place w n k =
    in_binding (typing place w n k.types) (λ t.
    in_binding (deeper place k.depth) (λ d.
    in_binding (larger place k.size) (λ z.
    Ok (record { dtype = t; depth = d; size = z }))))

-- the same over the first so many of the children
abbrev pub bound_by : Typing → Store → ℕ → New → List ℕ → ℕ → Result Bound Refusal
bound_by typing s place w cs n =
    then (surveyed no_kin (looked_up s (named cs n))) (λ k. bound_over typing place w n k)

-- the record of what was found
abbrev pub noted : Function → List ℕ → ℕ → Bound → Node
noted f cs n b = recorded f cs n b.dtype b.depth b.size

-- the record of a node whose function is f of the place of its text, which takes so many bytes
abbrev pub drafted : Typing → Held → ℕ → New → (Span → Function) → ℕ → List ℕ → ℕ → Result Node Refusal
drafted typing h place w f adds cs n =
    then (bound_by typing (store [] h) place w cs n) (λ b.
    in_memory (room_in place h adds) (λ p.
    Ok (noted (f p) cs n b)))
