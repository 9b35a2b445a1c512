-- The record of a node.
use Rattle.std.specs.Prelude.{ℕ, min, cond, ◌&&◌, List, ◌++◌, take, drop, replicate, Some, None, Option, nat_lt}
use Rattle.std.specs.Prelude.{slice_index}
use Rattle.vocabulary.specs.declared.types.DType.{DType}
use Rattle.vocabulary.specs.declared.values.Span.{Span}
use Rattle.vocabulary.specs.declared.values.Text.{Text}
use Rattle.vocabulary.specs.declared.values.Text.TheVariants.{Arena, Row}
use Rattle.vocabulary.specs.declared.values.Value.{Value}
use Rattle.vocabulary.specs.declared.values.Value.TheVariants as value
use Rattle.vocabulary.specs.declared.nodes.Function.{Function}
use Rattle.vocabulary.specs.declared.nodes.Function.TheVariants as function
use Rattle.vocabulary.specs.declared.nodes.Node.{Node}

-- the record of a bound node, which has a type
abbrev pub BoundNode : Type 0
BoundNode = Node DType

-- the record of an unbound node, which has none
abbrev pub UnboundNode : Type 0
UnboundNode = Node (Unit {0})

-- a record without its type
abbrev pub untyped : BoundNode → UnboundNode
untyped x = record {
  function = x.function;
  children = x.children;
  child_count = x.child_count;
  dtype = tt;
  depth = x.depth;
  size = x.size;
}

-- the first so many children, and zeros behind them up to eight
abbrev pub padded : List ℕ → ℕ → List ℕ
padded cs n = take n cs ++ drop n (replicate 8 0)

-- the record over the first so many of the children, at most eight
abbrev pub recorded : {T : Type 0} → Function → List ℕ → ℕ → T → ℕ → ℕ → Node T
recorded f cs n t d s =
    record { function = f; children = padded cs (min n 8); child_count = min n 8; dtype = t; depth = d; size = s }

abbrev pub child_at : {T : Type 0} → Node T → ℕ → Option ℕ
child_at n i = cond (nat_lt i n.child_count && nat_lt i 8) (Some (slice_index n.children i)) None

abbrev pub in_arena : Text → Option Span
in_arena (Arena s) = Some s
in_arena (Row s) = None

abbrev pub text_of_value : Value Text → Option Span
text_of_value value.Null = None
text_of_value (value.Bool b) = None
text_of_value (value.I64 x) = None
text_of_value (value.U64 x) = None
text_of_value (value.Utf8 t) = in_arena t
text_of_value (value.Extension e x) = None

-- the place of a literal's text or of a name
abbrev pub text_of : Function → Option Span
text_of function.Root = None
text_of (function.Literal t v) = text_of_value v
text_of (function.GetItem s) = Some s
text_of (function.Cast t) = None
text_of (function.Binary o) = None
text_of (function.Between b) = None
text_of (function.Host c) = None
