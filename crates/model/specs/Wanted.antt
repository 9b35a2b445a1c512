-- The nodes that are asked for.
use Rattle.std.specs.Prelude.{ℕ, List, [], length, take, slice_index}
use Rattle.vocabulary.specs.declared.nodes.Function.{Function}
use Rattle.vocabulary.specs.declared.nodes.Function.TheVariants.{Root, Literal, GetItem, Cast, Binary, Between, Host}
use Rattle.vocabulary.specs.declared.operators.BetweenOptions.{BetweenOptions}
use Rattle.vocabulary.specs.declared.operators.Operator.{Operator}
use Rattle.vocabulary.specs.declared.types.DType.{DType}
use Rattle.vocabulary.specs.declared.values.Span.{Span}
use Rattle.vocabulary.specs.declared.values.Text.{Text}
use Rattle.vocabulary.specs.declared.values.Text.TheVariants.{Arena}
use Rattle.vocabulary.specs.declared.values.Value.{Value as Placed}
use Rattle.vocabulary.specs.declared.values.Value.TheVariants as placed
use Rattle.vocabulary.specs.Operators.{family_of}
use Rattle.meaning.specs.Values.{Value, null, bool, signed, unsigned, text, ext, whole}
use Rattle.meaning.specs.Comparing.{value_bytes}
use Rattle.meaning.specs.Literals.{lit}
use Rattle.meaning.specs.Trees.{Fn, Expr, node, nil, cons, binary as two_under, between_node}
use Rattle.model.specs.Shapes.{Head, over, family_head, trees_by}

-- the function of a node that is asked for, with text as bytes
pub data New : Type 0 where
  root : ℕ → New
  literal : DType → Value → New
  get_item : List ℕ → New
  cast : DType → New
  binary : Operator → New
  between : BetweenOptions → New
  host : ℕ → New

-- where bytes lie that are appended to the text
abbrev pub behind : List ℕ → List ℕ → Span
behind all bs = record { start = length all; len = length bs }

-- a value with its text behind the text; no literal holds a whole row
abbrev pub placed_behind : List ℕ → Value → Placed Text
placed_behind all null = placed.Null
placed_behind all (bool b) = placed.Bool b
placed_behind all (signed z) = placed.I64 z
placed_behind all (unsigned n) = placed.U64 n
placed_behind all (text bs) = placed.Utf8 (Arena (behind all bs))
placed_behind all (ext e z) = placed.Extension e z
placed_behind all (whole s) = placed.Null

-- the function as it is recorded, with its text behind the text
abbrev pub new_function : List ℕ → New → Function
new_function all (root s) = Root
new_function all (literal t v) = Literal t (placed_behind all v)
new_function all (get_item name) = GetItem (behind all name)
new_function all (cast t) = Cast t
new_function all (binary o) = Binary o
new_function all (between o) = Between o
new_function all (host c) = Host c

-- the bytes that are appended to the text: those of a literal's text or of a name
abbrev pub new_bytes : New → List ℕ
new_bytes (root s) = []
new_bytes (literal t v) = value_bytes v
new_bytes (get_item name) = name
new_bytes (cast t) = []
new_bytes (binary o) = []
new_bytes (between o) = []
new_bytes (host c) = []

-- what the node computes
abbrev pub new_head : New → Head
new_head (root s) = over (Fn.root s)
new_head (literal t v) = over (Fn.literal t v)
new_head (get_item name) = over (Fn.get_item name)
new_head (cast t) = over (Fn.cast t)
new_head (binary o) = family_head (family_of o)
new_head (between o) = over (Fn.between o)
new_head (host c) = over (Fn.call c)

-- the tree that is asked for, over the trees of the first so many numbers
abbrev pub new_tree : (ℕ → Expr) → List ℕ → ℕ → New → Expr
new_tree f ks n (root s) = node (Fn.root s) nil
new_tree f ks n (literal t v) = lit t v
new_tree f ks n (get_item name) = node (Fn.get_item name) (cons (f (slice_index ks 0)) nil)
new_tree f ks n (cast t) = node (Fn.cast t) (cons (f (slice_index ks 0)) nil)
new_tree f ks n (binary o) = two_under o (f (slice_index ks 0)) (f (slice_index ks 1))
new_tree f ks n (between o) = between_node o (f (slice_index ks 0)) (f (slice_index ks 1)) (f (slice_index ks 2))
new_tree f ks n (host c) = node (Fn.call c) (trees_by f (take n ks))
