-- What is asked for, from the code's types to the model's.
use Rattle.std.specs.Prelude.{ℕ, List}
use Rattle.std.specs.Borrow.{Bor}
use Rattle.meaning.specs.Values.{Value, null, bool, signed, unsigned, text, ext}
use Rattle.model.specs.Wanted.{New, root, literal, get_item, cast, binary, between, host}
use Rattle.vocabulary.specs.declared.values.Value.{Value as Given}
use Rattle.vocabulary.specs.declared.values.Value.TheVariants.{Null, Bool, I64, U64, Utf8, Extension}
use Rattle.typing.specs.declared.asking.NewFunction.{NewFunction}
use Rattle.typing.specs.declared.asking.NewFunction.TheVariants as asked

-- the value that a literal is to hold
abbrev pub value_of : Given (Bor (List ℕ)) → Value
value_of Null = null
value_of (Bool b) = bool b
value_of (I64 z) = signed z
value_of (U64 n) = unsigned n
value_of (Utf8 bs) = text bs.now
value_of (Extension e z) = ext e z

-- the node that is asked for
abbrev pub new_of : NewFunction → New
new_of (asked.Root s) = root s
new_of (asked.Literal t v) = literal t (value_of v)
new_of (asked.GetItem name) = get_item name.now
new_of (asked.Cast t) = cast t
new_of (asked.Binary o) = binary o
new_of (asked.Between o) = between o
new_of (asked.Host c) = host c
