-- Making on trial, and taking back what was made.
use Rattle.std.specs.Prelude.{◌≡◌, ℕ, ◌≤◌, true, length, reverse, take}
use Rattle.model.specs.Stores.{Store}
use Rattle.arena.specs.Opened.{Opened}
use Rattle.arena.specs.Standing.{all_stand}

-- the store with the first so many of its nodes, in the order of making, and of the bytes of its text
abbrev pub taken_back : ℕ → ℕ → Store → Store
taken_back nodes bytes s = record {
  schemas = s.schemas;
  nodes = reverse (take nodes (reverse s.nodes));
  text = take bytes s.text;
  records = s.records;
  bytes = s.bytes;
}

-- so many nodes and bytes were there before: they still are, and the nodes stand in the bytes
pub record Marked (s : Store) (nodes bytes : ℕ) : Type 0 where
  pub fewer : nodes ≤ length s.nodes
  pub shorter : bytes ≤ length s.text
  pub before : all_stand bytes (reverse (take nodes (reverse s.nodes))) ≡ true

-- an arena is taken back to so many nodes and bytes; the schemas and the host stay
pub record TakenBack {H : Type 0} (nodes bytes : ℕ) (old new : Opened H) : Type 0 where
  pub after : new.store ≡ taken_back nodes bytes old.store
  pub schemas : new.store.schemas ≡ old.store.schemas
  pub host : new.host ≡ old.host
