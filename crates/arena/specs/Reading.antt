-- Reading the nodes of a store.
use Rattle.std.specs.Prelude.{ℕ, List, Some, None, Ok, Err, Option, Result}
use Rattle.std.specs.Borrow.{Bor}
use Rattle.std.specs.Option.{option_map}
use Rattle.vocabulary.specs.Nodes.{BoundNode as Node}
use Rattle.vocabulary.specs.declared.refusals.MemoryRefusal.TheVariants.{NoSuchNode}
use Rattle.vocabulary.specs.declared.refusals.Refusal.{Refusal}
use Rattle.vocabulary.specs.declared.refusals.Refusal.TheVariants.{Memory}
use Rattle.vocabulary.specs.Nodes.{UnboundNode}
use Rattle.model.specs.Unbound.{UnboundStore, unbound_at}
use Rattle.model.specs.Stores.{Store, node_at}

-- the answer by a record, or the refusal of a number that no node has
abbrev pub of_record : {X R : Type 0} → ℕ → Option R → (R → Result X Refusal) → Result X Refusal
of_record k None answer = Err (Memory (NoSuchNode k))
of_record k (Some x) answer = answer x

-- the answer by the record of a number
abbrev pub of_node : {X : Type 0} → Store → ℕ → (Node → Result X Refusal) → Result X Refusal
of_node s k answer = of_record k (node_at s k) answer

-- the bytes that a slice answered holds
abbrev pub read_bytes : Result (Option (Bor (List ℕ))) Refusal → Result (Option (List ℕ)) Refusal
read_bytes (Ok o) = Ok (option_map (λ (b : Bor (List ℕ)). b.now) o)
read_bytes (Err e) = Err e

-- the answer by the record of a number among unbound nodes
abbrev pub of_unbound : {X : Type 0} → UnboundStore → ℕ → (UnboundNode → Result X Refusal) → Result X Refusal
of_unbound u k answer = of_record k (unbound_at u k) answer
