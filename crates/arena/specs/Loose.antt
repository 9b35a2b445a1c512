-- Unbound nodes in the memory that bound ones have, each with a type that nothing reads.
use Rattle.std.specs.Prelude.{Bool, true, false, not, ◌&&◌, List, [], ◌∷◌, map, ◌==◌}
use Rattle.vocabulary.specs.Nodes.{BoundNode as Node}
use Rattle.vocabulary.specs.declared.types.Kind.{Kind}
use Rattle.vocabulary.specs.declared.types.Kind.TheVariants as kind
use Rattle.model.specs.Stores.{Store}
use Rattle.vocabulary.specs.Nodes.{untyped}
use Rattle.model.specs.Unbound.{UnboundStore}

-- the kind that every unbound node is written down with
abbrev pub is_filler : Kind → Bool
is_filler kind.Bool = false
is_filler kind.I64 = false
is_filler kind.U64 = false
is_filler kind.Utf8 = false
is_filler (kind.Extension e) = false
is_filler (kind.Row q) = q == 0

-- each of the records has the type of unbound nodes
abbrev pub all_loose : List Node → Bool
all_loose [] = true
all_loose (x ∷ xs) = (is_filler x.dtype.kind && not x.dtype.nullable) && all_loose xs

-- a store without its types
abbrev pub loosened : Store → UnboundStore
loosened s = record { nodes = map untyped s.nodes; text = s.text; records = s.records; bytes = s.bytes }
