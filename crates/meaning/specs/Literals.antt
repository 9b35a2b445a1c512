-- Literals, and what the rules see of them.
use Rattle.std.specs.Prelude.{Bool, false, ◌||◌, List, [], ◌∷◌, Some, None, Option}
use Rattle.vocabulary.specs.declared.types.DType.{DType}
use Rattle.meaning.specs.Values.{Value, null, bool, signed, unsigned, text, ext, whole, is_null}
use Rattle.meaning.specs.Trees.{Fn, root, literal, get_item, cast, compare, compute, between, call}
use Rattle.meaning.specs.Trees.{Expr, logic, node, Exprs, nil, cons}

-- a literal of that type
abbrev pub lit : DType → Value → Expr
lit t v = node (literal t v) nil

-- what a node holds, if it is a literal
abbrev pub fn_literal : Fn → Exprs → Option Value
fn_literal (root s) es = None
fn_literal (literal t v) nil = Some v
fn_literal (literal t v) (cons e es) = None
fn_literal (get_item n) es = None
fn_literal (cast t) es = None
fn_literal (compare c) es = None
fn_literal (compute o) es = None
fn_literal (between o) es = None
fn_literal (call c) es = None

-- what an expression holds, if it is a literal
abbrev pub literal_of : Expr → Option Value
literal_of (logic o a b) = None
literal_of (node f es) = fn_literal f es

-- what each child holds, if it is a literal
abbrev pub literals_of : Exprs → List (Option Value)
literals_of nil = []
literals_of (cons e es) = literal_of e ∷ literals_of es

-- a literal that holds null
abbrev pub is_null_literal : Option Value → Bool
is_null_literal None = false
is_null_literal (Some v) = is_null v

-- a child is a null literal
abbrev pub has_null_literal : Exprs → Bool
has_null_literal nil = false
has_null_literal (cons e es) = is_null_literal (literal_of e) || has_null_literal es

-- what the rules of And and Or see of an operand: a literal truth, a literal null, or neither
pub data Seen : Type 0 where
  sees_truth : Bool → Seen
  sees_null : Seen
  sees_other : Seen

-- what is seen of a literal that holds the value
abbrev pub seen_value : Value → Seen
seen_value null = sees_null
seen_value (bool b) = sees_truth b
seen_value (signed z) = sees_other
seen_value (unsigned n) = sees_other
seen_value (text bs) = sees_other
seen_value (ext e z) = sees_other
seen_value (whole s) = sees_other

-- what is seen of what an operand holds
abbrev pub seen_of : Option Value → Seen
seen_of None = sees_other
seen_of (Some v) = seen_value v

-- what is seen of an operand
abbrev pub seen : Expr → Seen
seen e = seen_of (literal_of e)
