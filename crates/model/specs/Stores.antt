-- The arena as a value.
use Rattle.std.specs.Prelude.{ℕ, cond, List, [], ◌∷◌, ◌++◌, length, Some, None, Option, ◌==◌}
use Rattle.vocabulary.specs.declared.nodes.Node.{Node as Record}
use Rattle.vocabulary.specs.Nodes.{BoundNode as Node}
use Rattle.meaning.specs.Columns.{Schemas}

-- an arena: its schemas, its nodes with the newest first, its text, and how many records and bytes it has room for
pub record Store : Type 0 where
  pub schemas : Schemas
  pub nodes : List Node
  pub text : List ℕ
  pub records : ℕ
  pub bytes : ℕ

-- the arena as it is opened
abbrev pub empty : Schemas → ℕ → ℕ → Store
empty ss records bytes = record { schemas = ss; nodes = []; text = []; records = records; bytes = bytes }

-- the record of a number among nodes with the newest first: a node's number is the count of those made before it
unfoldable pub node_among : {T : Type 0} → List (Record T) → ℕ → Option (Record T)
node_among [] n = None
node_among (x ∷ xs) n = cond (n == length xs) (Some x) (node_among xs n)

-- the record of a number
abbrev pub node_at : Store → ℕ → Option Node
node_at s n = node_among s.nodes n

-- the store with one more node, and with bytes behind its text
abbrev pub grown : Node → List ℕ → Store → Store
grown x bs s = record {
  schemas = s.schemas;
  nodes = x ∷ s.nodes;
  text = s.text ++ bs;
  records = s.records;
  bytes = s.bytes;
}
