-- Range comparisons: a column against a literal by one of the four order operators.
use Rattle.std.specs.Prelude.{ℕ, Bool, true, false, List, Some, None, Option}
use Rattle.std.specs.Option.{option_map, option_or}
use Rattle.vocabulary.specs.declared.types.DType.{DType}
use Rattle.vocabulary.specs.declared.operators.CompareOperator.{CompareOperator}
use Rattle.vocabulary.specs.declared.operators.CompareOperator.TheVariants.{Eq, NotEq, Gt, Gte, Lt, Lte}
use Rattle.vocabulary.specs.declared.operators.StrictComparison.{StrictComparison}
use Rattle.vocabulary.specs.declared.operators.StrictComparison.TheVariants.{Strict, NonStrict}
use Rattle.meaning.specs.Outcomes.{and_then}
use Rattle.meaning.specs.Values.{Value}
use Rattle.meaning.specs.Comparing.{swap}
use Rattle.meaning.specs.Trees.{Fn, root, literal, get_item, cast, compare, compute, between, call}
use Rattle.meaning.specs.Trees.{Expr, logic, node, Exprs, nil, cons}

-- a column: a GetItem of a Root
pub record Column : Type 0 where
  pub name : List ℕ
  pub schema : ℕ

-- a literal: its type and what it holds
pub record Bound : Type 0 where
  pub dtype : DType
  pub value : Value

-- a range comparison: its column and literal, whether that is the lower bound, and whether it is strict
pub record Range : Type 0 where
  pub col : Column
  pub bound : Bound
  pub lower : Bool
  pub strict : StrictComparison

-- the column as an expression
abbrev pub column_tree : Column → Expr
column_tree c = node (get_item c.name) (cons (node (root c.schema) nil) nil)

-- the literal as an expression
abbrev pub bound_tree : Bound → Expr
bound_tree c = node (literal c.dtype c.value) nil

-- the schema, if the node is a Root
abbrev pub fn_root : Fn → Exprs → Option ℕ
fn_root (root s) nil = Some s
fn_root (root s) (cons e es) = None
fn_root (literal t v) es = None
fn_root (get_item n) es = None
fn_root (cast t) es = None
fn_root (compare c) es = None
fn_root (compute o) es = None
fn_root (between o) es = None
fn_root (call c) es = None

-- the schema, if the expression is a Root
abbrev pub root_of : Expr → Option ℕ
root_of (logic o a b) = None
root_of (node f es) = fn_root f es

-- the column that a GetItem over those children is
abbrev pub item_over : List ℕ → Exprs → Option Column
item_over n nil = None
item_over n (cons e nil) = option_map (λ s. record { name = n; schema = s }) (root_of e)
item_over n (cons e (cons d es)) = None

-- the column, if the node is one
abbrev pub fn_column : Fn → Exprs → Option Column
fn_column (root s) es = None
fn_column (literal t v) es = None
fn_column (get_item n) es = item_over n es
fn_column (cast t) es = None
fn_column (compare c) es = None
fn_column (compute o) es = None
fn_column (between o) es = None
fn_column (call c) es = None

-- the column, if the expression is one
abbrev pub column_of : Expr → Option Column
column_of (logic o a b) = None
column_of (node f es) = fn_column f es

-- the literal, if the node is one
abbrev pub fn_bound : Fn → Exprs → Option Bound
fn_bound (root s) es = None
fn_bound (literal t v) nil = Some (record { dtype = t; value = v })
fn_bound (literal t v) (cons e es) = None
fn_bound (get_item n) es = None
fn_bound (cast t) es = None
fn_bound (compare c) es = None
fn_bound (compute o) es = None
fn_bound (between o) es = None
fn_bound (call c) es = None

-- the literal, if the expression is one
abbrev pub bound_of : Expr → Option Bound
bound_of (logic o a b) = None
bound_of (node f es) = fn_bound f es

-- column against literal by an order operator
abbrev pub ranged : CompareOperator → Column → Bound → Option Range
ranged Eq x l = None
ranged NotEq x l = None
ranged Gt x l = Some (record { col = x; bound = l; lower = true; strict = Strict })
ranged Gte x l = Some (record { col = x; bound = l; lower = true; strict = NonStrict })
ranged Lt x l = Some (record { col = x; bound = l; lower = false; strict = Strict })
ranged Lte x l = Some (record { col = x; bound = l; lower = false; strict = NonStrict })

-- a comparison of two operands as a range; with the literal on the left it is swapped
abbrev pub range_two : CompareOperator → Expr → Expr → Option Range
range_two c a b =
    option_or
    (and_then (column_of a) (λ x. and_then (bound_of b) (λ l. ranged c x l)))
    (and_then (column_of b) (λ x. and_then (bound_of a) (λ l. ranged (swap c) x l)))

-- a comparison over those children as a range
abbrev pub range_over : CompareOperator → Exprs → Option Range
range_over c nil = None
range_over c (cons a nil) = None
range_over c (cons a (cons b nil)) = range_two c a b
range_over c (cons a (cons b (cons d es))) = None

-- a node as a range
abbrev pub fn_range : Fn → Exprs → Option Range
fn_range (root s) es = None
fn_range (literal t v) es = None
fn_range (get_item n) es = None
fn_range (cast t) es = None
fn_range (compare c) es = range_over c es
fn_range (compute o) es = None
fn_range (between o) es = None
fn_range (call c) es = None

-- an expression as a range, if it is a range comparison
unfoldable pub range : Expr → Option Range
range (logic o a b) = None
range (node f es) = fn_range f es
