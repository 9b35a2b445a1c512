-- Literals as operands: their types and values, and an operand at the nullability of its node.
use Rattle.std.proofs.Common.{◌≡◌, Bool, true, false, not, ◌||◌, List, [], Some, None, Option, sym, refl, ap, ◌∙◌}
use Rattle.std.proofs.Common.{subst, arith}
use Rattle.std.proofs.lemmas.Bool.{and_parts}
use Rattle.std.proofs.lemmas.Option.{same_Some, cond_some}
use Rattle.vocabulary.specs.declared.types.DType.{DType}
use Rattle.vocabulary.specs.declared.types.Kind.TheVariants as kind
use Rattle.meaning.specs.Columns.{Schemas}
use Rattle.meaning.specs.Evaluating.{Env, fn_value, eval}
use Rattle.meaning.specs.Hosts.{Meaning}
use Rattle.meaning.specs.Lists.{of_one}
use Rattle.meaning.specs.Literals.{lit, fn_literal, literal_of, is_null_literal, sees_truth, sees_null, seen_of}
use Rattle.meaning.specs.Outcomes.{malformed, Outcome, value, fault, then}
use Rattle.meaning.specs.Rules.{widen_as, widen}
use Rattle.meaning.specs.Trees.{Fn, root, literal, get_item, cast, compare, compute, between, call, Expr, logic, node}
use Rattle.meaning.specs.Trees.{Exprs, nil, cons}
use Rattle.meaning.specs.Typing.{fn_type, typed}
use Rattle.meaning.specs.Values.{Value, null, bool, boolean, fits}
use Rattle.meaning.proofs.CaseSplits.{none_some, false_true, listed}
use Rattle.meaning.proofs.FitsTypes.{cast_same}

fn_literal_inv : (f : Fn) (es : Exprs) (v : Value) → fn_literal f es ≡ Some v → (t : DType) × (node f es ≡ lit t v)
fn_literal_inv (root s) es v p = none_some v p
fn_literal_inv (literal t w) nil v p = (t, ap (lit t) (same_Some _ _ p))
fn_literal_inv (literal t w) (cons e es) v p = none_some v p
fn_literal_inv (get_item n) es v p = none_some v p
fn_literal_inv (cast t) es v p = none_some v p
fn_literal_inv (compare c) es v p = none_some v p
fn_literal_inv (compute o) es v p = none_some v p
fn_literal_inv (between o) es v p = none_some v p
fn_literal_inv (call c) es v p = none_some v p

-- an expression that holds a value is the literal of it
pub literal_inv : (e : Expr) (v : Value) → literal_of e ≡ Some v → (t : DType) × (e ≡ lit t v)
literal_inv (logic o a b) v p = none_some v p
literal_inv (node f es) v p = fn_literal_inv f es v p

-- a truth is seen of the literal of it
pub seen_truth : (l : Option Value) (x : Bool) → seen_of l ≡ sees_truth x → l ≡ Some (bool x)
seen_truth l x p = grind arith

pub seen_null : (l : Option Value) → seen_of l ≡ sees_null → l ≡ Some null
seen_null l p = grind arith

pub null_literal : (l : Option Value) → is_null_literal l ≡ true → l ≡ Some null
null_literal l p = grind arith

-- a literal that binds has its own type, which its value fits
pub lit_typed : (m : Meaning) (ss : Schemas) (t u : DType) (v : Value) → typed m ss (lit t v) ≡ Some u
    → (t ≡ u) × (fits v t ≡ true)
unfolding fn_type
lit_typed m ss t u v p = let (c, e) = cond_some _ _ _ p in (e, (and_parts _ _ c).0)

-- a Bool literal binds, if its value fits
pub lit_bool : (m : Meaning) (ss : Schemas) (n : Bool) (v : Value) → fits v (boolean n) ≡ true
    → typed m ss (lit (boolean n) v) ≡ Some (boolean n)
unfolding fn_type
lit_bool m ss n v p = rw p refl

-- a literal has the value that it holds
pub lit_eval : (m : Meaning) (r : Env) (t : DType) (v : Value) → eval m r (lit t v) ≡ value v
unfolding fn_value
lit_eval m r t v = refl

-- an expression that holds a value has it
pub literal_eval : (m : Meaning) (r : Env) (e : Expr) (v : Value) → literal_of e ≡ Some v → eval m r e ≡ value v
literal_eval m r e v p = let (t, i) = literal_inv e v p in ap (eval m r) i ∙ lit_eval m r t v

cast_outcome : (x : Outcome Value)
    → then (listed x (value [])) (λ (vs : List Value). of_one (fault malformed) (λ (v : Value). value v) vs) ≡ x
cast_outcome (value v) = refl
cast_outcome (fault x) = refl

-- a Cast has the value of its operand
cast_eval : (m : Meaning) (r : Env) (t : DType) (e : Expr) → eval m r (node (cast t) (cons e nil)) ≡ eval m r e
unfolding fn_value
cast_eval m r t e = cast_outcome (eval m r e)

cast_typed : (m : Meaning) (ss : Schemas) (e : Expr) → typed m ss e ≡ Some (boolean false)
    → typed m ss (node (cast (boolean true)) (cons e nil)) ≡ Some (boolean true)
unfolding fn_type
cast_typed m ss e p = rw p refl

module _ (m : Meaning) (ss : Schemas) (r : Env) where
  widen_none : (n k : Bool) (e : Expr) → typed m ss e ≡ Some (boolean k) → (n || not k) ≡ true
      → (typed m ss (widen_as n k e None) ≡ Some (boolean n)) × (eval m r (widen_as n k e None) ≡ eval m r e)
  widen_none true true e p q = (p, refl)
  widen_none true false e p q = (cast_typed m ss e p, cast_eval m r (boolean true) e)
  widen_none false true e p q = false_true q
  widen_none false false e p q = (p, refl)

  widen_lit : (n k : Bool) (e : Expr) (v : Value) → literal_of e ≡ Some v → typed m ss e ≡ Some (boolean k)
      → (n || not k) ≡ true
      → (typed m ss (lit (boolean n) v) ≡ Some (boolean n)) × (eval m r (lit (boolean n) v) ≡ eval m r e)
  widen_lit n k e v l p q =
      let (t, i) = literal_inv e v l in
      let (j, f) = lit_typed m ss t (boolean k) v (rw i at p) in
      let g : fits v (boolean k) ≡ true = subst (λ (z : DType). fits v z ≡ true) j f in (
        lit_bool m ss n v (cast_same kind.Bool n k v q g),
        lit_eval m r (boolean n) v ∙ sym (lit_eval m r t v) ∙ ap (eval m r) (sym i),
      )

  widen_by : (n k : Bool) (e : Expr) (l : Option Value) → literal_of e ≡ l → typed m ss e ≡ Some (boolean k)
      → (n || not k) ≡ true
      → (typed m ss (widen_as n k e l) ≡ Some (boolean n)) × (eval m r (widen_as n k e l) ≡ eval m r e)
  widen_by n k e None i p q = widen_none n k e p q
  widen_by n k e (Some v) i p q = widen_lit n k e v i p q

  -- an operand put under the node's nullability has that nullability and its own value
  pub widen_same : (n k : Bool) (e : Expr) → typed m ss e ≡ Some (boolean k) → (n || not k) ≡ true
      → (typed m ss (widen n k e) ≡ Some (boolean n)) × (eval m r (widen n k e) ≡ eval m r e)
  widen_same n k e p q = widen_by n k e (literal_of e) refl p q
