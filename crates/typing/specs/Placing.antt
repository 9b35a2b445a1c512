-- Where the text of a node lies.
use Rattle.vocabulary.specs.declared.nodes.Function.{Function}
use Rattle.vocabulary.specs.declared.nodes.Function.TheVariants.{Root, Literal, GetItem, Cast, Binary, Between, Host}
use Rattle.vocabulary.specs.declared.values.Span.{Span}
use Rattle.vocabulary.specs.declared.values.Text.{Text}
use Rattle.vocabulary.specs.declared.values.Text.TheVariants.{Arena}
use Rattle.vocabulary.specs.declared.values.Value.{Value as Placed}
use Rattle.vocabulary.specs.declared.values.Value.TheVariants as placed
use Rattle.meaning.specs.Values.{Value, null, bool, signed, unsigned, text, ext, whole}
use Rattle.model.specs.Wanted.{New, root, literal, get_item, cast, binary, between, host}

-- a value with its text at that place
abbrev pub value_at : Span → Value → Placed Text
value_at p null = placed.Null
value_at p (bool b) = placed.Bool b
value_at p (signed z) = placed.I64 z
value_at p (unsigned n) = placed.U64 n
value_at p (text bs) = placed.Utf8 (Arena p)
value_at p (ext e z) = placed.Extension e z
value_at p (whole s) = placed.Null

-- the function as it is recorded, with its text at that place
abbrev pub function_at : Span → New → Function
function_at p (root s) = Root
function_at p (literal t v) = Literal t (value_at p v)
function_at p (get_item name) = GetItem p
function_at p (cast t) = Cast t
function_at p (binary o) = Binary o
function_at p (between o) = Between o
function_at p (host c) = Host c
