-- Sound unbound arenas: each record says what its tree is, and all lies within its room.
use Rattle.std.specs.Prelude.{◌≡◌, ℕ, ◌≤◌, true, length, Some}
use Rattle.vocabulary.specs.Nodes.{padded, text_of}
use Rattle.meaning.specs.Trees.{depth, size}
use Rattle.model.specs.Shapes.{head_of, kids}
use Rattle.model.specs.Making.{head_counts}
use Rattle.model.specs.Soundness.{Below, EndsWithin}
use Rattle.vocabulary.specs.Nodes.{UnboundNode}
use Rattle.model.specs.Unbound.{UnboundStore, unbound_at, rows, tree_for}
use Rattle.model.specs.UnboundMaking.{any_host}

-- the record x of the number n is sound, read against the schema q
pub record SoundUnboundNode (q : ℕ) (u : UnboundStore) (n : ℕ) (x : UnboundNode) : Type 0 where
  -- its children were made before it
  pub older : Below n (kids x)
  -- they are as many as its function takes, for a function of the host at most eight
  pub counted : head_counts any_host (head_of u.text (rows q) x.function) x.child_count ≡ true
  -- its depth and its size are those of its tree, within the limits
  pub levels : x.depth ≡ depth (tree_for q u n)
  pub places : x.size ≡ size (tree_for q u n)
  pub shallow : x.depth ≤ 256
  pub small : x.size ≤ 4096
  -- its text lies inside the arena's
  pub ends : EndsWithin u.text (text_of x.function)
  -- it holds eight numbers, with zeros behind those of its children
  pub eight : length x.children ≡ 8
  pub few : x.child_count ≤ 8
  pub zeros : x.children ≡ padded x.children x.child_count

-- each record is sound, whatever the schema, and records and text are within their room
pub record SoundUnbound (u : UnboundStore) : Type 0 where
  pub each : (q n : ℕ) (x : UnboundNode) → unbound_at u n ≡ Some x → SoundUnboundNode q u n x
  pub records_within : length u.nodes ≤ u.records
  pub text_within : length u.text ≤ u.bytes
