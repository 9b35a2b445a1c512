-- Which expressions cannot fault.
use Rattle.std.specs.Prelude.{◌≡◌, ℕ, Bool, true, false, ◌&&◌, List, Some, None, Option}
use Rattle.vocabulary.specs.declared.types.DType.{DType}
use Rattle.vocabulary.specs.Types.{same_kind}
use Rattle.meaning.specs.Outcomes.{value}
use Rattle.meaning.specs.Lists.{of_two}
use Rattle.meaning.specs.Values.{Value, all_fit}
use Rattle.meaning.specs.Hosts.{Meaning, host_value, host_type}
use Rattle.meaning.specs.Lawful.{Lawful}
use Rattle.meaning.specs.Trees.{Fn, root, literal, get_item, cast, compare, compute, between, call}
use Rattle.meaning.specs.Trees.{Expr, logic, node, Exprs, nil, cons}
use Rattle.meaning.specs.Columns.{Schemas, ColumnsPlain}
use Rattle.meaning.specs.Typing.{typed, typed_all}
use Rattle.meaning.specs.Evaluating.{Env, EnvFits, eval}

-- which functions of a host never fault on arguments of those types
abbrev pub Safe : Type 0
Safe = ℕ → List DType → Bool

-- a function that is called safe has a value of all arguments that fit
abbrev pub SafeLaw : Meaning → Safe → Type 0
SafeLaw m safe =
    (c : ℕ) (ts : List DType) (t : DType) (vs : List Value)
    → host_type m c ts ≡ Some t → safe c ts ≡ true → all_fit vs ts ≡ true
    → (v : Value) × (host_value m c vs ≡ value v)

-- two alike types
abbrev pub alike_types : List DType → Bool
alike_types ts = of_two false (λ t u. same_kind t.kind u.kind) ts

-- a node that does not fault over children of those types: no arithmetic, and no comparison of unlike types
abbrev pub fn_safe : Safe → Fn → List DType → Bool
fn_safe safe (root s) ts = true
fn_safe safe (literal t v) ts = true
fn_safe safe (get_item n) ts = true
fn_safe safe (cast t) ts = true
fn_safe safe (compare c) ts = alike_types ts
fn_safe safe (compute o) ts = false
fn_safe safe (between o) ts = true
fn_safe safe (call c) ts = safe c ts

-- the same, where the children bind
abbrev pub with_types : Safe → Fn → Option (List DType) → Bool
with_types safe f None = false
with_types safe f (Some ts) = fn_safe safe f ts

abbrev mutual
  -- no node of the expression faults
  pub infallible : Meaning → Schemas → Safe → Expr → Bool
  infallible m ss safe (logic o a b) = infallible m ss safe a && infallible m ss safe b
  infallible m ss safe (node f es) = with_types safe f (typed_all m ss es) && infallibles m ss safe es

  -- no node of the children faults
  pub infallibles : Meaning → Schemas → Safe → Exprs → Bool
  infallibles m ss safe nil = true
  infallibles m ss safe (cons e es) = infallible m ss safe e && infallibles m ss safe es

-- an infallible expression has a value on every fitting row
abbrev pub InfallibleHasValue : Type 0
InfallibleHasValue =
    (m : Meaning) → Lawful m
    → (ss : Schemas) (r : Env) → EnvFits ss r
    → (safe : Safe) → SafeLaw m safe → ColumnsPlain ss
    → (e : Expr) (t : DType) → typed m ss e ≡ Some t → infallible m ss safe e ≡ true
    → (v : Value) × (eval m r e ≡ value v)
