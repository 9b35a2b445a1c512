-- Evaluation that says where it faults: by the path of child places from the top.
use Rattle.std.specs.Prelude.{ℕ, zero, suc, List, [], ◌∷◌, Some, None, Option}
use Rattle.meaning.specs.Outcomes.{Fault, Outcome, value, fault, and_then}
use Rattle.meaning.specs.Values.{Value}
use Rattle.meaning.specs.Kleene.{kleene}
use Rattle.meaning.specs.Hosts.{Meaning}
use Rattle.meaning.specs.Trees.{Expr, logic, node, Exprs, nil, cons, nth_child}
use Rattle.meaning.specs.Evaluating.{Env, fn_value}

-- a value, or the first fault and the path to its node
pub data Placed (A : Type 0) : Type 0 where
  valued : A → Placed A
  faulted : Fault → List ℕ → Placed A

-- goes on with the value; a fault is passed on
abbrev pub then_placed : {A B : Type 0} → Placed A → (A → Placed B) → Placed B
then_placed (valued a) f = f a
then_placed (faulted x p) f = faulted x p

-- seen from the parent, of which this is the child at place i
abbrev pub under : {A : Type 0} → ℕ → Placed A → Placed A
under i (valued a) = valued a
under i (faulted x p) = faulted x (i ∷ p)

-- a fault of the top node itself
abbrev pub at_top : {A : Type 0} → Outcome A → Placed A
at_top (value a) = valued a
at_top (fault x) = faulted x []

-- the outcome without the path
abbrev pub forget_place : {A : Type 0} → Placed A → Outcome A
forget_place (valued a) = value a
forget_place (faulted x p) = fault x

abbrev mutual
  -- evaluation, with the path of the first fault
  pub eval_placed : Meaning → Env → Expr → Placed Value
  eval_placed m r (logic o a b) =
      then_placed (under 0 (eval_placed m r a)) (λ v.
      then_placed (under 1 (eval_placed m r b)) (λ w.
      valued (kleene o v w)))
  eval_placed m r (node f es) = then_placed (evals_placed m r es 0) (λ vs. at_top (fn_value m r f vs))

  -- the same of children, the first of which stands at place i
  pub evals_placed : Meaning → Env → Exprs → ℕ → Placed (List Value)
  evals_placed m r nil i = valued []
  evals_placed m r (cons e es) i =
      then_placed (under i (eval_placed m r e)) (λ v.
      then_placed (evals_placed m r es (suc i)) (λ vs.
      valued (v ∷ vs)))

-- the child of an expression at that place
abbrev pub subtree_at : Expr → ℕ → Option Expr
subtree_at (logic o a b) zero = Some a
subtree_at (logic o a b) (suc zero) = Some b
subtree_at (logic o a b) (suc (suc i)) = None
subtree_at (node f es) i = nth_child es i

-- the expression at the end of the path
abbrev pub at_path : Expr → List ℕ → Option Expr
at_path e [] = Some e
at_path e (i ∷ p) = and_then (subtree_at e i) (λ d. at_path d p)
