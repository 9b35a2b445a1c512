-- Evaluating an expression on a row.
use Rattle.std.specs.Prelude.{◌≡◌, ℕ, true, List, [], ◌∷◌, Some}
use Rattle.vocabulary.specs.declared.types.DType.{DType}
use Rattle.meaning.specs.Outcomes.{Outcome, value, fault, malformed, then}
use Rattle.meaning.specs.Lists.{of_none, of_one, of_two, of_three}
use Rattle.meaning.specs.Values.{Value, null, bool, signed, unsigned, text, ext, whole, fits}
use Rattle.meaning.specs.Kleene.{kleene}
use Rattle.meaning.specs.Comparing.{compares, lies_between}
use Rattle.meaning.specs.Computing.{computes}
use Rattle.meaning.specs.Hosts.{Meaning, host_value}
use Rattle.meaning.specs.Trees.{Fn, root, literal, get_item, cast, compare, compute, between, call}
use Rattle.meaning.specs.Trees.{Expr, logic, node, Exprs, nil, cons}
use Rattle.meaning.specs.Columns.{Schemas, column_type}

-- an environment: the value of each column, by schema and name
abbrev pub Env : Type 0
Env = ℕ → List ℕ → Value

-- each column's value fits its type
pub record EnvFits (ss : Schemas) (r : Env) : Type 0 where
  pub fit : (s : ℕ) (n : List ℕ) (t : DType) → column_type ss s n ≡ Some t → fits (r s n) t ≡ true

-- the column of that name, of a whole row
abbrev pub item_value : Env → List ℕ → Value → Outcome Value
item_value r n null = fault malformed
item_value r n (bool b) = fault malformed
item_value r n (signed z) = fault malformed
item_value r n (unsigned k) = fault malformed
item_value r n (text bs) = fault malformed
item_value r n (ext e z) = fault malformed
item_value r n (whole s) = value (r s n)

-- the value of a node over children of those values
unfoldable pub fn_value : Meaning → Env → Fn → List Value → Outcome Value
fn_value m r (root s) vs = of_none (fault malformed) (value (whole s)) vs
fn_value m r (literal t v) vs = of_none (fault malformed) (value v) vs
fn_value m r (get_item n) vs = of_one (fault malformed) (λ v. item_value r n v) vs
fn_value m r (cast t) vs = of_one (fault malformed) (λ v. value v) vs
fn_value m r (compare c) vs = of_two (fault malformed) (λ v w. compares c v w) vs
fn_value m r (compute o) vs = of_two (fault malformed) (λ v w. computes o v w) vs
fn_value m r (between o) vs = of_three (fault malformed) (λ x l u. lies_between o x l u) vs
fn_value m r (call c) vs = host_value m c vs

abbrev mutual
  -- the value of an expression: all children are evaluated, left to right, and the first fault is the answer
  pub eval : Meaning → Env → Expr → Outcome Value
  eval m r (logic o a b) = then (eval m r a) (λ v. then (eval m r b) (λ w. value (kleene o v w)))
  eval m r (node f es) = then (evals m r es) (λ vs. fn_value m r f vs)

  -- the values of the children
  pub evals : Meaning → Env → Exprs → Outcome (List Value)
  evals m r nil = value []
  evals m r (cons e es) = then (eval m r e) (λ v. then (evals m r es) (λ vs. value (v ∷ vs)))
