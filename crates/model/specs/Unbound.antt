-- The arena of unbound trees: records without types, and the trees that they stand for against a schema.
use Rattle.std.specs.Prelude.{ℕ, false, List, [], ◌∷◌, ◌++◌, map, Option}
use Rattle.vocabulary.specs.Nodes.{BoundNode as Node, UnboundNode}
use Rattle.vocabulary.specs.declared.types.DType.{DType}
use Rattle.vocabulary.specs.declared.types.Kind.TheVariants as kind
use Rattle.meaning.specs.Trees.{Expr}
use Rattle.model.specs.Stores.{Store, node_among}
use Rattle.model.specs.Shapes.{tree}

-- an arena of unbound nodes: the newest first, their text, and how many records and bytes it has room for
pub record UnboundStore : Type 0 where
  pub nodes : List UnboundNode
  pub text : List ℕ
  pub records : ℕ
  pub bytes : ℕ

-- the arena as it is opened
abbrev pub empty_unbound : ℕ → ℕ → UnboundStore
empty_unbound records bytes = record { nodes = []; text = []; records = records; bytes = bytes }

-- the record of a number
abbrev pub unbound_at : UnboundStore → ℕ → Option UnboundNode
unbound_at u n = node_among u.nodes n

-- the arena with one more node, and with bytes behind its text
abbrev pub unbound_grown : UnboundNode → List ℕ → UnboundStore → UnboundStore
unbound_grown x bs u = record {
  nodes = x ∷ u.nodes;
  text = u.text ++ bs;
  records = u.records;
  bytes = u.bytes;
}

-- the type of the rows of a schema
abbrev pub rows : ℕ → DType
rows q = record { kind = kind.Row q; nullable = false }

-- an unbound record as a node's, with a type that says of which schema a Root is
abbrev pub seen : ℕ → UnboundNode → Node
seen q x = record {
  function = x.function;
  children = x.children;
  child_count = x.child_count;
  dtype = rows q;
  depth = x.depth;
  size = x.size;
}

-- the unbound arena read against a schema, of which each Root is then
abbrev pub against : ℕ → UnboundStore → Store
against q u = record {
  schemas = [];
  nodes = map (seen q) u.nodes;
  text = u.text;
  records = u.records;
  bytes = u.bytes;
}

-- the tree of a number against a schema
abbrev pub tree_for : ℕ → UnboundStore → ℕ → Expr
tree_for q u n = tree (against q u) n
