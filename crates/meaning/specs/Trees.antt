-- Expression trees.
use Rattle.std.specs.Prelude.{ℕ, zero, suc, ◌+◌, max, List, Some, None, Option}
use Rattle.vocabulary.specs.declared.types.DType.{DType}
use Rattle.vocabulary.specs.declared.operators.Arithmetic.{Arithmetic}
use Rattle.vocabulary.specs.declared.operators.BetweenOptions.{BetweenOptions}
use Rattle.vocabulary.specs.declared.operators.CompareOperator.{CompareOperator}
use Rattle.vocabulary.specs.declared.operators.Connective.{Connective}
use Rattle.vocabulary.specs.declared.operators.Family.{Family}
use Rattle.vocabulary.specs.declared.operators.Family.TheVariants.{Compare, Connect, Compute}
use Rattle.vocabulary.specs.declared.operators.Operator.{Operator}
use Rattle.vocabulary.specs.Operators.{family_of}
use Rattle.meaning.specs.Values.{Value}

-- what a node other than And and Or computes of its children
pub data Fn : Type 0 where
  -- the row of a schema
  root : ℕ → Fn
  literal : DType → Value → Fn
  -- a column of a row, by its name
  get_item : List ℕ → Fn
  cast : DType → Fn
  compare : CompareOperator → Fn
  compute : Arithmetic → Fn
  -- of column, lower bound and upper bound
  between : BetweenOptions → Fn
  -- a function of the host, by its code
  call : ℕ → Fn

mutual
  -- an expression: And or Or of two, or a function of its children
  pub data Expr : Type 0 where
    logic : Connective → Expr → Expr → Expr
    node : Fn → Exprs → Expr

  -- children, left to right
  pub data Exprs : Type 0 where
    nil : Exprs
    cons : Expr → Exprs → Exprs

-- two operands under an operator of that family
abbrev pub of_family : Family → Expr → Expr → Expr
of_family (Compare c) a b = node (compare c) (cons a (cons b nil))
of_family (Connect o) a b = logic o a b
of_family (Compute o) a b = node (compute o) (cons a (cons b nil))

-- two operands under any of the twelve operators
abbrev pub binary : Operator → Expr → Expr → Expr
binary o a b = of_family (family_of o) a b

-- Between of column, lower bound and upper bound
abbrev pub between_node : BetweenOptions → Expr → Expr → Expr → Expr
between_node o x l u = node (between o) (cons x (cons l (cons u nil)))

-- the child at that place, counted from 0
abbrev pub nth_child : Exprs → ℕ → Option Expr
nth_child nil i = None
nth_child (cons e es) zero = Some e
nth_child (cons e es) (suc i) = nth_child es i

abbrev mutual
  -- nodes on the longest path
  pub depth : Expr → ℕ
  depth (logic o a b) = suc (max (depth a) (depth b))
  depth (node f es) = suc (depths es)

  -- the depth of the deepest child
  pub depths : Exprs → ℕ
  depths nil = 0
  depths (cons e es) = max (depth e) (depths es)

abbrev mutual
  -- nodes of the tree
  pub size : Expr → ℕ
  size (logic o a b) = suc (size a + size b)
  size (node f es) = suc (sizes es)

  -- nodes of all children
  pub sizes : Exprs → ℕ
  sizes nil = 0
  sizes (cons e es) = size e + sizes es
