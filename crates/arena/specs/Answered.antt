-- What a call that makes or rebuilds a node answers, and the arena after it.
use Rattle.std.specs.Prelude.{◌≡◌, ℕ, Result}
use Rattle.vocabulary.specs.declared.refusals.Refusal.{Refusal}
use Rattle.meaning.specs.Columns.{Schemas}
use Rattle.model.specs.Stores.{Store}
use Rattle.arena.specs.declared.memory.Memory.{Memory}
use Rattle.arena.specs.Opened.{Opened, store}

-- an answer and a store are those that were made; the schemas and the host stay
pub record Answered {H : Type 0} (answer : Result ℕ Refusal) (old new : Opened H)
    (made : Result ℕ Refusal × Store) : Type 0 where
  pub answers : answer ≡ made.0
  pub after : new.store ≡ made.1
  pub schemas : new.store.schemas ≡ old.store.schemas
  pub host : new.host ≡ old.host

-- the same of memory, whatever the schemas are that its arena has
pub record Gives (answer : Result ℕ Refusal) (old new : Memory)
    (made : Store → Result ℕ Refusal × Store) : Type 0 where
  pub answers : (ss : Schemas) → answer ≡ (made (store ss old)).0
  pub after : (ss : Schemas) → store ss new ≡ (made (store ss old)).1

-- an answer and a store, of whatever kind of store, are those that were made
pub record Made {S : Type 0} (answer : Result ℕ Refusal) (new : S) (made : Result ℕ Refusal × S) : Type 0 where
  pub answers : answer ≡ made.0
  pub after : new ≡ made.1
