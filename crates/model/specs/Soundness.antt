-- Sound stores: each record says what its tree is, and all lies within its room.
use Rattle.std.specs.Prelude.{◌≡◌, ℕ, ◌+◌, ◌<◌, ◌≤◌, true, List, [], ◌∷◌, length, Some, None, Option}
use Rattle.vocabulary.specs.Nodes.{BoundNode as Node}
use Rattle.vocabulary.specs.declared.values.Span.{Span}
use Rattle.vocabulary.specs.Nodes.{padded, text_of}
use Rattle.meaning.specs.Hosts.{Meaning}
use Rattle.meaning.specs.Trees.{depth, size}
use Rattle.meaning.specs.Typing.{typed}
use Rattle.model.specs.Stores.{Store, node_at}
use Rattle.model.specs.Shapes.{head, kids, tree}
use Rattle.model.specs.Making.{head_counts}

-- each number is below n
abbrev pub Below : ℕ → List ℕ → Type 0
Below n [] = Unit {0}
Below n (k ∷ ks) = (k < n) × Below n ks

-- the part, where there is one, ends inside the text
abbrev pub EndsWithin : List ℕ → Option Span → Type 0
EndsWithin text None = Unit {0}
EndsWithin text (Some p) = p.start + p.len ≤ length text

-- the record x of the number n is sound
pub record SoundNode (m : Meaning) (s : Store) (n : ℕ) (x : Node) : Type 0 where
  -- its type is that of its tree
  pub binds : typed m s.schemas (tree s n) ≡ Some x.dtype
  -- its children were made before it
  pub older : Below n (kids x)
  -- they are as many as its function takes
  pub counted : head_counts m (head s.text x) x.child_count ≡ true
  -- its depth and its size are those of its tree, within the limits
  pub levels : x.depth ≡ depth (tree s n)
  pub places : x.size ≡ size (tree s n)
  pub shallow : x.depth ≤ 256
  pub small : x.size ≤ 4096
  -- its text lies inside the store's
  pub ends : EndsWithin s.text (text_of x.function)
  -- it holds eight numbers, with zeros behind those of its children
  pub eight : length x.children ≡ 8
  pub few : x.child_count ≤ 8
  pub zeros : x.children ≡ padded x.children x.child_count

-- each record is sound, and records and text are within their room
pub record Sound (m : Meaning) (s : Store) : Type 0 where
  pub each : (n : ℕ) (x : Node) → node_at s n ≡ Some x → SoundNode m s n x
  pub records_within : length s.nodes ≤ s.records
  pub text_within : length s.text ≤ s.bytes
