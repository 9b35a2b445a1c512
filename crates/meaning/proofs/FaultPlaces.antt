-- The path of a fault leads to the node that faults.
use Rattle.std.proofs.Common.{◌≡◌, ℕ, suc, ◌+◌, ◌⊎◌, List, [], ◌∷◌, Some, Option, sym, refl, ap, ◌∙◌, inl, inr, arith}
use Rattle.meaning.specs.Evaluating.{Env, fn_value, eval, evals}
use Rattle.meaning.specs.Hosts.{Meaning}
use Rattle.meaning.specs.LawsOfEvaluating.{FaultsAt, PlacesNameTheFault}
use Rattle.meaning.specs.Outcomes.{Fault, Outcome, value, fault, then, and_then}
use Rattle.meaning.specs.Places.{Placed, valued, faulted, then_placed, under, at_top, forget_place, eval_placed}
use Rattle.meaning.specs.Places.{evals_placed, subtree_at, at_path}
use Rattle.meaning.specs.Trees.{Expr, logic, node, Exprs, nil, cons, nth_child}

-- with the place left out, evaluation goes on as without places
forget_then : {A B : Type 0} (x : Placed A) (f : A → Placed B)
    → forget_place (then_placed x f) ≡ then (forget_place x) (λ (a : A). forget_place (f a))
forget_then (valued a) f = refl
forget_then (faulted flt p) f = refl

forget_under : {A : Type 0} (i : ℕ) (x : Placed A) → forget_place (under i x) ≡ forget_place x
forget_under i (valued a) = refl
forget_under i (faulted flt p) = refl

forget_top : {A : Type 0} (x : Outcome A) → forget_place (at_top x) ≡ x
forget_top (value a) = refl
forget_top (fault flt) = refl

mutual
  -- so a placed outcome is the outcome, with a place
  forgets : (m : Meaning) (r : Env) (e : Expr) → forget_place (eval_placed m r e) ≡ eval m r e
  forgets m r (logic o a b) = simp (forget_then, forget_under, forgets m r a, forgets m r b)
  forgets m r (node f es) = simp (forget_then, forget_top, forgets_all m r es 0)

  forgets_all : (m : Meaning) (r : Env) (es : Exprs) (i : ℕ) → forget_place (evals_placed m r es i) ≡ evals m r es
  forgets_all m r nil i = refl
  forgets_all m r (cons e es) i = simp (forget_then, forget_under, forgets m r e, forgets_all m r es (suc i))

-- a fault is the first one's, or that of going on
then_faulted : {A B : Type 0} (x : Placed A) (f : A → Placed B) (flt : Fault) (p : List ℕ)
    → then_placed x f ≡ faulted flt p → (x ≡ faulted flt p) ⊎ ((a : A) × (x ≡ valued a) × (f a ≡ faulted flt p))
then_faulted (valued a) f flt p h = inr (a, refl, h)
then_faulted (faulted k q) f flt p h = inl (cc)

-- a value is no fault
valued_faulted : {A B : Type 0} (a : A) (flt : Fault) (p : List ℕ) → valued a ≡ faulted flt p → B
valued_faulted a flt p h = absurd (grind arith)

-- the path of a fault below a child begins with the child's place
under_faulted : {A : Type 0} (i : ℕ) (x : Placed A) (flt : Fault) (p : List ℕ) → under i x ≡ faulted flt p
    → (q : List ℕ) × (i ∷ q ≡ p) × (x ≡ faulted flt q)
under_faulted i (valued a) flt p h = valued_faulted a flt p h
under_faulted i (faulted k q) flt p h = (q, cc, cc)

-- a fault of the node itself has the empty path
top_faulted : {A : Type 0} (x : Outcome A) (flt : Fault) (p : List ℕ) → at_top x ≡ faulted flt p
    → ([] ≡ p) × (x ≡ fault flt)
top_faulted (value a) flt p h = valued_faulted a flt p h
top_faulted (fault k) flt p h = (cc, cc)

-- a fault below a child, seen from the node
fault_below : (m : Meaning) (r : Env) (e d : Expr) (i : ℕ) (flt : Fault) (q p : List ℕ) → subtree_at e i ≡ Some d
    → i ∷ q ≡ p → FaultsAt m r d flt q → FaultsAt m r e flt p
fault_below m r e d i flt q p h j x =
    record {
      function = x.function;
      children = x.children;
      values = x.values;
      there = ap (at_path e) (sym j) ∙ ap (λ (z : Option Expr). and_then z (λ (y : Expr). at_path y q)) h ∙ x.there;
      have_values = x.have_values;
      itself = x.itself;
    }

mutual
  -- the node at the path faults of itself
  found_there : (m : Meaning) (r : Env) (e : Expr) (flt : Fault) (p : List ℕ) → eval_placed m r e ≡ faulted flt p
      → FaultsAt m r e flt p
  found_there m r (logic o a b) flt p h = elim (then_faulted (under 0 (eval_placed m r a)) _ flt p h) [
    | inl z ↦
        let (q, j, k) = under_faulted 0 (eval_placed m r a) flt p z in
        fault_below m r (logic o a b) a 0 flt q p refl j (found_there m r a flt q k)
    | inr z ↦ elim (then_faulted (under 1 (eval_placed m r b)) _ flt p z.2) [
      | inl y ↦
          let (q, j, k) = under_faulted 1 (eval_placed m r b) flt p y in
          fault_below m r (logic o a b) b 1 flt q p refl j (found_there m r b flt q k)
      | inr y ↦ valued_faulted _ flt p y.2
    ]
  ]
  found_there m r (node f es) flt p h = elim (then_faulted (evals_placed m r es 0) _ flt p h) [
    | inl z ↦
        let (i, d, q, j, k, x) = found_among m r es 0 flt p z in
        fault_below m r (node f es) d i flt q p k (ap (λ (y : ℕ). y ∷ q) (omega arith) ∙ j) x
    | inr z ↦
        let (j, k) = top_faulted (fn_value m r f z.0) flt p z.2 in
        record {
          function = f;
          children = es;
          values = z.0;
          there = ap (at_path (node f es)) (sym j);
          have_values = sym (forgets_all m r es 0) ∙ ap forget_place z.1;
          itself = k;
        }
  ]

  found_among : (m : Meaning) (r : Env) (es : Exprs) (s : ℕ) (flt : Fault) (p : List ℕ)
      → evals_placed m r es s ≡ faulted flt p
      → (i : ℕ) × (d : Expr) × (q : List ℕ) × ((s + i) ∷ q ≡ p) × (nth_child es i ≡ Some d) × FaultsAt m r d flt q
  found_among m r nil s flt p h = valued_faulted _ flt p h
  found_among m r (cons e es) s flt p h = elim (then_faulted (under s (eval_placed m r e)) _ flt p h) [
    | inl z ↦
        let (q, j, k) = under_faulted s (eval_placed m r e) flt p z in
        (0, e, q, ap (λ (y : ℕ). y ∷ q) (omega arith) ∙ j, refl, found_there m r e flt q k)
    | inr z ↦ elim (then_faulted (evals_placed m r es (suc s)) _ flt p z.2) [
      | inl y ↦
          let (i, d, q, j, k, x) = found_among m r es (suc s) flt p y in
          (suc i, d, q, ap (λ (w : ℕ). w ∷ q) (omega arith) ∙ j, k, x)
      | inr y ↦ valued_faulted _ flt p y.2
    ]
  ]

pub places_name_the_fault : PlacesNameTheFault
places_name_the_fault m r e = (forgets m r e, found_there m r e)
