-- What operators give fits the type that typing gives it.
use Rattle.std.proofs.Common.{◌≡◌, ℕ, ◌+◌, ◌-◌, ◌*◌, ◌/◌, Bool, true, false, cond, not, ◌||◌, eqb, ltb, ◌⊎◌, List, []}
use Rattle.std.proofs.Common.{◌∷◌, ℤ, ◌+ℤ◌, ◌-ℤ◌, ◌*ℤ◌, Some, sym, refl, ap, ◌∙◌, subst, inl, inr, arith}
use Rattle.std.proofs.lemmas.Bool.{and_parts, or_left, or_right}
use Rattle.std.proofs.lemmas.Bool.Decides.{nat_tests}
use Rattle.std.proofs.lemmas.Option.{cond_some}
use Rattle.vocabulary.specs.Types.{same_kind}
use Rattle.vocabulary.specs.declared.operators.Arithmetic.{Arithmetic}
use Rattle.vocabulary.specs.declared.operators.Arithmetic.TheVariants.{Add, Sub, Mul, Div}
use Rattle.vocabulary.specs.declared.operators.BetweenOptions.{BetweenOptions}
use Rattle.vocabulary.specs.declared.operators.CompareOperator.{CompareOperator}
use Rattle.vocabulary.specs.declared.operators.Connective.{Connective}
use Rattle.vocabulary.specs.declared.operators.Connective.TheVariants.{And}
use Rattle.vocabulary.specs.declared.types.DType.{DType}
use Rattle.vocabulary.specs.declared.types.Kind.{Kind}
use Rattle.vocabulary.specs.declared.types.Kind.TheVariants as kind
use Rattle.meaning.specs.Comparing.{holds, alike, compares, bound_operator, lies_between}
use Rattle.meaning.specs.Computing.{magnitude, with_sign, signed_result, unsigned_result, compute_signed}
use Rattle.meaning.specs.Computing.{compute_unsigned, computes}
use Rattle.meaning.specs.Kleene.{truth, of_truth, kleene}
use Rattle.meaning.specs.Outcomes.{arithmetic, unlike, Outcome, value, fault}
use Rattle.meaning.specs.Typing.{logic_type, compare_type, compute_type, between_type, cast_type}
use Rattle.meaning.specs.Values.{Value, null, bool, signed, unsigned, text, ext, whole, boolean, is_null, fits}
use Rattle.meaning.specs.Values.{all_fit}
use Rattle.meaning.proofs.CaseSplits.{fault_value, false_true, value_same, then_value}

-- null fits nullable types alone
pub null_fits : (v : Value) (t : DType) → is_null v ≡ true → fits v t ≡ true → t.nullable ≡ true
null_fits null t p q = q
null_fits (bool b) t p q = false_true p
null_fits (signed z) t p q = false_true p
null_fits (unsigned n) t p q = false_true p
null_fits (text bs) t p q = false_true p
null_fits (ext e z) t p q = false_true p
null_fits (whole s) t p q = false_true p

-- the test of two kinds tells whether they are one
pub one_kind : (k l : Kind) → same_kind k l ≡ true → k ≡ l
one_kind k l p = grind (arith, nat_tests)

eqb_commutes : (a b : ℕ) → eqb a b ≡ eqb b a
eqb_commutes a b = grind (arith, nat_tests)

-- the test of two kinds does not go by their order
pub kinds_commute : (k l : Kind) → same_kind k l ≡ same_kind l k
kinds_commute k l = simp eqb_commutes

-- a value of a Bool type is a truth, or null
pub bool_value : (v : Value) (t : DType) → same_kind kind.Bool t.kind ≡ true → fits v t ≡ true
    → of_truth (truth v) ≡ v
bool_value v t p q = let e = one_kind kind.Bool t.kind p in grind (arith, nat_tests)

-- a comparison gives null of a null operand, and else a truth
compare_ways : (b d y : Bool) (x : Value) → cond b (value null) (cond d (value (bool y)) (fault unlike)) ≡ value x
    → ((x ≡ null) × (b ≡ true)) ⊎ (x ≡ bool y)
compare_ways true d y x p = inl (sym (value_same p), refl)
compare_ways false true y x p = inr (sym (value_same p))
compare_ways false false y x p = fault_value unlike x p

or_nulls : (t u : DType) (v w : Value) → fits v t ≡ true → fits w u ≡ true → (is_null v || is_null w) ≡ true
    → (t.nullable || u.nullable) ≡ true
or_nulls t u v w p q h = grind (arith, null_fits)

compare_result : (c : CompareOperator) (t u : DType) (v w x : Value) → fits v t ≡ true → fits w u ≡ true
    → compares c v w ≡ value x → fits x (boolean (t.nullable || u.nullable)) ≡ true
compare_result c t u v w x p q h =
    elim (compare_ways (is_null v || is_null w) (alike v w) (holds c v w) x h)
    [ inl e ↦ rw e.0 (or_nulls t u v w p q e.1) | inr e ↦ rw e refl ]

-- what a comparison gives fits its type
pub compare_fits : (c : CompareOperator) (t u s : DType) (v w x : Value) → compare_type t u ≡ Some s → fits v t ≡ true
    → fits w u ≡ true → compares c v w ≡ value x → fits x s ≡ true
compare_fits c t u s v w x p q h k =
    subst (λ (z : DType). fits x z ≡ true) (cond_some _ _ _ p).1 (compare_result c t u v w x q h k)

-- what And and Or give fits
pub logic_fits : (o : Connective) (t u s : DType) (v w : Value) → logic_type t u ≡ Some s → fits v t ≡ true
    → fits w u ≡ true → fits (kleene o v w) s ≡ true
logic_fits o t u s v w p q h = grind (arith, null_fits)

-- a result that is kept has room in its kind
signed_result_fits : (z : ℤ) (v : Value) → signed_result z ≡ value v → (b : Bool)
    → fits v (record { kind = kind.I64; nullable = b }) ≡ true
signed_result_fits z v p b = grind arith

unsigned_result_fits : (n : ℕ) (v : Value) → unsigned_result n ≡ value v → (b : Bool)
    → fits v (record { kind = kind.U64; nullable = b }) ≡ true
unsigned_result_fits n v p b = grind arith

-- a value under a test for a fault passed the test
past_fault : (c : Bool) (y : Outcome Value) (v : Value) → cond c (fault arithmetic) y ≡ value v → y ≡ value v
past_fault true y v p = fault_value arithmetic v p
past_fault false y v p = p

signed_fits : (o : Arithmetic) (a b : ℤ) (v : Value) (n : Bool) → compute_signed o a b ≡ value v
    → fits v (record { kind = kind.I64; nullable = n }) ≡ true
unfolding compute_signed
signed_fits Add a b v n p = signed_result_fits (a +ℤ b) v p n
signed_fits Sub a b v n p = signed_result_fits (a -ℤ b) v p n
signed_fits Mul a b v n p = signed_result_fits (a *ℤ b) v p n
signed_fits Div a b v n p =
    signed_result_fits (with_sign a b (magnitude a / magnitude b)) v
    (past_fault (eqb (magnitude b) 0) (signed_result (with_sign a b (magnitude a / magnitude b))) v p) n

unsigned_fits : (o : Arithmetic) (a b : ℕ) (v : Value) (n : Bool) → compute_unsigned o a b ≡ value v
    → fits v (record { kind = kind.U64; nullable = n }) ≡ true
unfolding compute_unsigned
unsigned_fits Add a b v n p = unsigned_result_fits (a + b) v p n
unsigned_fits Sub a b v n p = unsigned_result_fits (a - b) v (past_fault (ltb a b) (unsigned_result (a - b)) v p) n
unsigned_fits Mul a b v n p = unsigned_result_fits (a * b) v p n
unsigned_fits Div a b v n p = unsigned_result_fits (a / b) v (past_fault (eqb b 0) (unsigned_result (a / b)) v p) n

-- an operation on numbers gives a number of the left operand's kind, or null
compute_result : (o : Arithmetic) (k l : Kind) (n i : Bool) (v w x : Value)
    → fits v (record { kind = k; nullable = n }) ≡ true → fits w (record { kind = l; nullable = i }) ≡ true
    → computes o v w ≡ value x → fits x (record { kind = k; nullable = n || i }) ≡ true
compute_result o k l n i null w x p q h =
    subst (λ (z : Value). fits z (record { kind = k; nullable = n || i }) ≡ true) (value_same h) (or_left n i p)
compute_result o k l n i (bool b) w x p q h = fault_value unlike x h
compute_result o k l n i (signed a) null x p q h =
    subst (λ (z : Value). fits z (record { kind = k; nullable = n || i }) ≡ true) (value_same h) (or_right n i q)
compute_result o k l n i (signed a) (bool b) x p q h = fault_value unlike x h
compute_result o k l n i (signed a) (signed b) x p q h =
    rw (← (one_kind kind.I64 k (and_parts _ _ p).0)) (signed_fits o a b x (n || i) h)
compute_result o k l n i (signed a) (unsigned b) x p q h = fault_value unlike x h
compute_result o k l n i (signed a) (text b) x p q h = fault_value unlike x h
compute_result o k l n i (signed a) (ext e b) x p q h = fault_value unlike x h
compute_result o k l n i (signed a) (whole b) x p q h = fault_value unlike x h
compute_result o k l n i (unsigned a) null x p q h =
    subst (λ (z : Value). fits z (record { kind = k; nullable = n || i }) ≡ true) (value_same h) (or_right n i q)
compute_result o k l n i (unsigned a) (bool b) x p q h = fault_value unlike x h
compute_result o k l n i (unsigned a) (signed b) x p q h = fault_value unlike x h
compute_result o k l n i (unsigned a) (unsigned b) x p q h =
    rw (← (one_kind kind.U64 k (and_parts _ _ p).0)) (unsigned_fits o a b x (n || i) h)
compute_result o k l n i (unsigned a) (text b) x p q h = fault_value unlike x h
compute_result o k l n i (unsigned a) (ext e b) x p q h = fault_value unlike x h
compute_result o k l n i (unsigned a) (whole b) x p q h = fault_value unlike x h
compute_result o k l n i (text b) w x p q h = fault_value unlike x h
compute_result o k l n i (ext e b) w x p q h = fault_value unlike x h
compute_result o k l n i (whole b) w x p q h = fault_value unlike x h

-- what an operation on numbers gives fits
pub compute_fits : (o : Arithmetic) (t u s : DType) (v w x : Value) → compute_type t u ≡ Some s → fits v t ≡ true
    → fits w u ≡ true → computes o v w ≡ value x → fits x s ≡ true
compute_fits o t u s v w x p q h k =
    subst (λ (z : DType). fits x z ≡ true) (cond_some _ _ _ p).1
    (compute_result o t.kind u.kind t.nullable u.nullable v w x q h k)

or_regroups : (a b c : Bool) → ((b || a) || (a || c)) ≡ (a || (b || c))
or_regroups a b c = grind arith

between_result : (o : BetweenOptions) (t u w : DType) (x a b y : Value) → fits x t ≡ true → fits a u ≡ true
    → fits b w ≡ true → lies_between o x a b ≡ value y
    → fits y (boolean (t.nullable || (u.nullable || w.nullable))) ≡ true
between_result o t u w x a b y fx fa fb k =
    let (c, e, f) = then_value (compares (bound_operator o.lower_strict) a x) _ y k in
    let (d, g, j) = then_value (compares (bound_operator o.upper_strict) x b) _ y f in
    let p = compare_result (bound_operator o.lower_strict) u t a x c fa fx e in
    let q = compare_result (bound_operator o.upper_strict) t w x b d fx fb g in
    let z =
    logic_fits And (boolean (u.nullable || t.nullable)) (boolean (t.nullable || w.nullable))
    (boolean ((u.nullable || t.nullable) || (t.nullable || w.nullable))) c d refl p q in
    subst (λ (z : Value). fits z (boolean (t.nullable || (u.nullable || w.nullable))) ≡ true) (value_same j)
    (rw or_regroups at z)

-- what a Between gives fits
pub between_fits : (o : BetweenOptions) (t u w s : DType) (x a b y : Value) → between_type t u w ≡ Some s
    → fits x t ≡ true → fits a u ≡ true → fits b w ≡ true → lies_between o x a b ≡ value y → fits y s ≡ true
between_fits o t u w s x a b y p fx fa fb k =
    subst (λ (z : DType). fits y z ≡ true) (cond_some _ _ _ p).1 (between_result o t u w x a b y fx fa fb k)

-- a value fits its type made nullable
pub cast_same : (k : Kind) (n i : Bool) (v : Value) → (n || not i) ≡ true
    → fits v (record { kind = k; nullable = i }) ≡ true → fits v (record { kind = k; nullable = n }) ≡ true
cast_same k n i null q h = grind arith
cast_same k n i (bool b) q h = h
cast_same k n i (signed z) q h = h
cast_same k n i (unsigned z) q h = h
cast_same k n i (text z) q h = h
cast_same k n i (ext e z) q h = h
cast_same k n i (whole z) q h = h

-- what a Cast gives fits
pub cast_fits : (t u s : DType) (v : Value) → cast_type t u ≡ Some s → fits v u ≡ true → fits v s ≡ true
cast_fits t u s v p q =
    let (c, e) = cond_some _ _ _ p in
    let (c0, c1) = and_parts _ _ c in
    let (c2, c3) = and_parts _ _ c1 in
    let l = one_kind u.kind t.kind c2 in
    let q1 : fits v (record { kind = t.kind; nullable = u.nullable }) ≡ true =
    subst (λ (k : Kind). fits v (record { kind = k; nullable = u.nullable }) ≡ true) l q in
    subst (λ (z : DType). fits v z ≡ true) e (cast_same t.kind t.nullable u.nullable v c3 q1)

-- values that fit types are as many
pub fit_nil : (vs : List Value) → all_fit vs [] ≡ true → vs ≡ []
fit_nil [] p = refl
fit_nil (v ∷ vs) p = false_true p

pub fit_cons : (vs : List Value) (t : DType) (ts : List DType) → all_fit vs (t ∷ ts) ≡ true
    → (v : Value) × (ws : List Value) × (vs ≡ v ∷ ws) × (fits v t ≡ true) × (all_fit ws ts ≡ true)
fit_cons [] t ts p = false_true p
fit_cons (v ∷ vs) t ts p = let (a, b) = and_parts _ _ p in (v, vs, refl, a, b)

pub fit_one : (vs : List Value) (t : DType) → all_fit vs (t ∷ []) ≡ true
    → (v : Value) × (vs ≡ v ∷ []) × (fits v t ≡ true)
fit_one vs t p =
    let (v, ws, e, a, b) = fit_cons vs t [] p in
    (v, e ∙ ap (λ (z : List Value). v ∷ z) (fit_nil ws b), a)

pub fit_two : (vs : List Value) (t u : DType) → all_fit vs (t ∷ u ∷ []) ≡ true
    → (v w : Value) × (vs ≡ v ∷ w ∷ []) × (fits v t ≡ true) × (fits w u ≡ true)
fit_two vs t u p =
    let (v, ws, e, a, b) = fit_cons vs t (u ∷ []) p in
    let (w, f, c) = fit_one ws u b in
    (v, w, e ∙ ap (λ (z : List Value). v ∷ z) f, a, c)

pub fit_three : (vs : List Value) (t u s : DType) → all_fit vs (t ∷ u ∷ s ∷ []) ≡ true
    → (v w x : Value) × (vs ≡ v ∷ w ∷ x ∷ []) × (fits v t ≡ true) × (fits w u ≡ true) × (fits x s ≡ true)
fit_three vs t u s p =
    let (v, ws, e, a, b) = fit_cons vs t (u ∷ s ∷ []) p in
    let (w, x, f, c, d) = fit_two ws u s b in
    (v, w, x, e ∙ ap (λ (z : List Value). v ∷ z) f, a, c, d)
