-- A function with its text behind the text, as making has it.
use Rattle.std.proofs.Common.{◌≡◌, ℕ, List, sym, refl, ap}
use Rattle.vocabulary.specs.declared.nodes.Function.TheVariants.{Literal}
use Rattle.meaning.specs.Comparing.{value_bytes}
use Rattle.meaning.specs.Values.{Value, null, bool, signed, unsigned, text, ext, whole}
use Rattle.model.specs.Wanted.{New, root, literal, get_item, cast, binary, between, host}
use Rattle.model.specs.Wanted.{behind, placed_behind, new_function, new_bytes}
use Rattle.typing.specs.Placing.{value_at, function_at}

value_behind : (all bs : List ℕ) (v : Value) → value_bytes v ≡ bs → value_at (behind all bs) v ≡ placed_behind all v
value_behind all bs null e = refl
value_behind all bs (bool b) e = refl
value_behind all bs (signed z) e = refl
value_behind all bs (unsigned n) e = refl
value_behind all bs (text cs) e = ap (λ (z : List ℕ). value_at (behind all z) (text cs)) (sym e)
value_behind all bs (ext k z) e = refl
value_behind all bs (whole s) e = refl

pub function_behind : (all : List ℕ) (w : New) → function_at (behind all (new_bytes w)) w ≡ new_function all w
function_behind all (root s) = refl
function_behind all (literal t v) = ap (Literal t) (value_behind all (value_bytes v) v refl)
function_behind all (get_item name) = refl
function_behind all (cast t) = refl
function_behind all (binary o) = refl
function_behind all (between o) = refl
function_behind all (host c) = refl
