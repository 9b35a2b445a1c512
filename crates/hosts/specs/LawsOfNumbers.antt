-- The host Numbers is lawful, and coalesce is the first of its arguments that is not null.
use Rattle.std.specs.Prelude.{◌≡◌, ℕ, suc, ◌+◌, ◌<◌, Bool, true, false, cond, ◌&&◌, List, [], ◌∷◌, length, is_some}
use Rattle.std.specs.Prelude.{Some, None, Option, ◌≢◌, nat_le, refl}
use Rattle.std.proofs.Common.{ap, sym, subst, ◌∙◌, arith, add-zero}
use Rattle.std.proofs.lemmas.Bool.{and_parts, le-leb, cond-true}
use Rattle.vocabulary.specs.declared.types.DType.{DType}
use Rattle.vocabulary.specs.declared.types.Kind.{Kind}
use Rattle.vocabulary.specs.declared.types.Kind.TheVariants as kind
use Rattle.vocabulary.specs.Types.{plain_kind, type_of}
use Rattle.meaning.specs.Outcomes.{value, host, settled}
use Rattle.meaning.specs.Lists.{nth}
use Rattle.meaning.specs.Values.{Value, is_null, fits, all_fit}
use Rattle.meaning.specs.Hosts.{argument, fails, nothing, child, reply_value, argument_value}
use Rattle.meaning.specs.Hosts.{all_plain, host_value}
use Rattle.meaning.specs.Lawful.{Lawful, NamesArguments, answer_type, answer_value, answer_once}
use Rattle.hosts.specs.declared.numbers.NumberFunction.{NumberFunction}
use Rattle.hosts.specs.declared.numbers.NumberFunction.TheVariants.{Abs, Coalesce}
use Rattle.hosts.specs.Numbers.{numbers, number_function, numbers_takes, numbers_types, numbers_gives, numbers_rule}
use Rattle.hosts.specs.Numbers.{abs_type, abs_reply, all_alike, all_nullable, coalesce_type}
use Rattle.hosts.specs.Numbers.{first_given, coalesced, CoalesceIsTheFirst}
use Rattle.hosts.specs.Tools.{fails_argument, plain_type, under_test}
use Rattle.std.proofs.lemmas.Option.{cond_some}
use Rattle.meaning.proofs.CaseSplits.{none_some, fault_value, value_same, of_one_some}
use Rattle.meaning.proofs.FitsTypes.{fit_nil, fit_cons, fit_one, null_fits, one_kind}

-- a null goes on to the next, another value is the first
one_given : (ws vs : List Value) (i : ℕ) (v : Value) (b : Bool)
    → nth ws i ≡ Some v → reply_value ws (first_given (i + 1) vs) ≡ value (coalesced vs)
    → reply_value ws (cond b (first_given (i + 1) vs) (argument i)) ≡ value (cond b (coalesced vs) v)
one_given ws vs i v true here next = next
one_given ws vs i v false here next = ap argument_value here

-- the arguments from a place on, which stand there in the list of all
first_from : (ws : List Value) (i : ℕ) (vs : List Value)
    → ((k : ℕ) → nth ws (i + k) ≡ nth vs k) → reply_value ws (first_given i vs) ≡ value (coalesced vs)
first_from ws i [] h = refl
first_from ws i (v ∷ vs) h =
    one_given ws vs i v (is_null v) (ap (nth ws) (sym (add-zero i)) ∙ h 0)
    (first_from ws (i + 1) vs
    (λ k. let e : (i + 1) + k ≡ i + suc k = omega arith in ap (nth ws) e ∙ h (suc k)))

given_value : (vs : List Value) → reply_value vs (first_given 0 vs) ≡ value (coalesced vs)
given_value vs = first_from vs 0 vs (λ k. let e : 0 + k ≡ k = omega arith in ap (nth vs) e)

pub coalesce_is_the_first : CoalesceIsTheFirst
coalesce_is_the_first vs h =
    ap (reply_value vs) (cond-true (nat_le (length vs) 8) (first_given 0 vs) (fails 0) (le-leb (length vs) 8 h))
    ∙ given_value vs

-- where it has a value, that is the first
coalesce_value : (vs : List Value) (v : Value) (b : Bool)
    → reply_value vs (cond b (first_given 0 vs) (fails 0)) ≡ value v → coalesced vs ≡ v
coalesce_value vs v true h = value_same (sym (given_value vs) ∙ h)
coalesce_value vs v false h = fault_value (host 0) v h

-- a value other than null fits its kind, nullable or not
solid_fits : (v : Value) (k : Kind) (n i : Bool) → is_null v ≡ false
    → fits v (record { kind = k; nullable = n }) ≡ true → fits v (record { kind = k; nullable = i }) ≡ true
solid_fits v k n i p h = grind arith

-- the first of two fits where it is not null, else the second
first_fits : (k : Kind) (n i : Bool) (v w : Value) (b : Bool) → is_null v ≡ b
    → fits v (record { kind = k; nullable = n }) ≡ true → fits w (record { kind = k; nullable = i }) ≡ true
    → fits (cond b w v) (record { kind = k; nullable = n && i }) ≡ true
first_fits k n i v w true e p q = rw (null_fits v (record { kind = k; nullable = n }) e p) q
first_fits k n i v w false e p q = solid_fits v k n (n && i) e p

-- values of types alike t
rest_fits : (t : DType) (ts : List DType) (vs : List Value) → all_alike t ts ≡ true → all_fit vs ts ≡ true
    → fits (coalesced vs) (record { kind = t.kind; nullable = all_nullable ts }) ≡ true
rest_fits t [] vs l p = rw (fit_nil vs p) refl
rest_fits t (u ∷ us) vs l p =
    let (v, ws, e, a, b) = fit_cons vs u us p in
    let (l0, l1) = and_parts _ _ l in
    let f : fits v (record { kind = t.kind; nullable = u.nullable }) ≡ true =
    subst (λ (z : Kind). fits v (record { kind = z; nullable = u.nullable }) ≡ true)
    (sym (one_kind t.kind u.kind l0)) a
    in
    rw e (first_fits t.kind u.nullable (all_nullable us) v (coalesced ws) (is_null v) refl f
    (rest_fits t us ws l1 b))

all_fits : (t : DType) (ts : List DType) (vs : List Value) → all_alike t ts ≡ true → all_fit vs (t ∷ ts) ≡ true
    → fits (coalesced vs) (record { kind = t.kind; nullable = all_nullable (t ∷ ts) }) ≡ true
all_fits t ts vs l p =
    let (v, ws, e, a, b) = fit_cons vs t ts p in
    rw e (first_fits t.kind t.nullable (all_nullable ts) v (coalesced ws) (is_null v) refl a
    (rest_fits t ts ws l b))

abs_fits : (w : Value) (ws : List Value) (u : DType) (v : Value) → fits w u ≡ true
    → reply_value ws (abs_reply w) ≡ value v → fits v (type_of kind.I64 u.nullable) ≡ true
abs_fits w ws u v p h = grind arith

-- the type of a call, by its function
abbrev typed : Option NumberFunction → List DType → Option DType
typed f ts =
    cond (is_some f && (numbers_takes f (length ts) && (nat_le (length ts) 8 && all_plain ts)))
    (numbers_types f ts) None

-- a type of abs is that of one argument
abs_typed : (ts : List DType) (t : DType) → typed (Some Abs) ts ≡ Some t
    → (u : DType) × (ts ≡ u ∷ []) × (type_of kind.I64 u.nullable ≡ t)
abs_typed ts t p =
    let (u, e, g) = of_one_some abs_type ts t (under_test _ _ _ p).1 in
    (u, e, (cond_some _ _ _ g).1)

third_holds : (a b c d : Bool) → (a && (b && (c && d))) ≡ true → c ≡ true
third_holds a b c d p = grind arith

-- a type of coalesce is that of its first argument, which is plain, with those alike
coalesce_typed : (s : DType) (ts : List DType) (t : DType) → typed (Some Coalesce) (s ∷ ts) ≡ Some t
    → (all_alike s ts ≡ true) × (plain_kind s.kind ≡ true)
    × (record { kind = s.kind; nullable = all_nullable (s ∷ ts) } ≡ t)
coalesce_typed s ts t p =
    let (b, g) = under_test _ (coalesce_type (s ∷ ts)) t p in
    let (l, i) = cond_some _ _ _ g in
    let k =
    third_holds (numbers_takes (Some Coalesce) (length (s ∷ ts))) (nat_le (length (s ∷ ts)) 8) (plain_kind s.kind)
    (all_plain ts) b
    in
    (l, k, sym (plain_type s.kind (all_nullable (s ∷ ts)) k) ∙ i)

numbers_fit : (f : Option NumberFunction) (ts : List DType) (t : DType) (vs : List Value) (v : Value)
    → typed f ts ≡ Some t → all_fit vs ts ≡ true → reply_value vs (numbers_gives f vs) ≡ value v → fits v t ≡ true
numbers_fit None ts t vs v p q h = none_some t p
numbers_fit (Some Abs) ts t vs v p q h =
    let (u, e, i) = abs_typed ts t p in
    let (w, k, j) = fit_one vs u (rw e at q) in
    subst (λ z. fits v z ≡ true) i (abs_fits w (w ∷ []) u v j (rw k at h))
numbers_fit (Some Coalesce) [] t vs v p q h = none_some t p
numbers_fit (Some Coalesce) (s ∷ ts) t vs v p q h =
    let (l, k, i) = coalesce_typed s ts t p in
    rw (← i, ← (coalesce_value vs v (nat_le (length vs) 8) h)) (all_fits s ts vs l q)

numbers_no_row : (f : Option NumberFunction) (ts : List DType) (t : DType)
    → typed f ts ≡ Some t → plain_kind t.kind ≡ true
numbers_no_row None ts t p = none_some t p
numbers_no_row (Some Abs) ts t p =
    let (u, e, i) = abs_typed ts t p in
    subst (λ z. plain_kind z.kind ≡ true) i refl
numbers_no_row (Some Coalesce) [] t p = none_some t p
numbers_no_row (Some Coalesce) (s ∷ ts) t p =
    let (l, k, i) = coalesce_typed s ts t p in
    subst (λ z. plain_kind z.kind ≡ true) i k

-- the type of the first is that of all where it is not nullable
first_type : (s : DType) (ts : List DType) (t : DType) (b : Bool) → s.nullable ≡ b
    → record { kind = s.kind; nullable = all_nullable (s ∷ ts) } ≡ t
    → answer_type numbers t (s ∷ ts) (cond b nothing (child 0)) ≡ Some t
first_type s ts t true e i = refl
first_type s ts t false e i =
    ap Some (ap (λ z. record { kind = s.kind; nullable = z }) (e ∙ ap (λ z. z && all_nullable ts) (sym e)) ∙ i)

numbers_rule_type : (f : Option NumberFunction) (ts : List DType) (t : DType)
    → typed f ts ≡ Some t → answer_type numbers t ts (numbers_rule f ts) ≡ Some t
numbers_rule_type None ts t p = none_some t p
numbers_rule_type (Some Abs) ts t p = refl
numbers_rule_type (Some Coalesce) [] t p = none_some t p
numbers_rule_type (Some Coalesce) (s ∷ ts) t p =
    let (l, k, i) = coalesce_typed s ts t p in
    first_type s ts t s.nullable refl i

first_solid : (v w : Value) (t : DType) → t.nullable ≡ false → fits v t ≡ true → v ≡ cond (is_null v) w v
first_solid v w t e p = grind (arith, null_fits)

-- the value of the first is that of all where it is never null
first_value : (c : ℕ) (s : DType) (ts : List DType) (vs : List Value) (v : Value) (b : Bool) → s.nullable ≡ b
    → all_fit vs (s ∷ ts) ≡ true → host_value numbers c vs ≡ value v → coalesced vs ≡ v
    → answer_value numbers c vs (cond b nothing (child 0)) ≡ Some v
first_value c s ts vs v true e p h g = ap settled h
first_value c s ts vs v false e p h g =
    let (w, ws, i, a, b) = fit_cons vs s ts p in
    rw i (ap Some (first_solid w (coalesced ws) s e a ∙ (rw i at g)))

numbers_rule_value : (c : ℕ) (f : Option NumberFunction) (ts : List DType) (t : DType) (vs : List Value) (v : Value)
    → typed f ts ≡ Some t → all_fit vs ts ≡ true → host_value numbers c vs ≡ value v
    → reply_value vs (numbers_gives f vs) ≡ value v → answer_value numbers c vs (numbers_rule f ts) ≡ Some v
numbers_rule_value c None ts t vs v p q h g = none_some t p
numbers_rule_value c (Some Abs) ts t vs v p q h g = ap settled h
numbers_rule_value c (Some Coalesce) [] t vs v p q h g = none_some t p
numbers_rule_value c (Some Coalesce) (s ∷ ts) t vs v p q h g =
    first_value c s ts vs v s.nullable refl q h (coalesce_value vs v (nat_le (length vs) 8) g)

one_answer : (b : Bool) → answer_once (cond b nothing (child 0)) ≡ true
one_answer true = refl
one_answer false = refl

numbers_once : (f : Option NumberFunction) (ts : List DType) → answer_once (numbers_rule f ts) ≡ true
numbers_once None ts = refl
numbers_once (Some Abs) ts = refl
numbers_once (Some Coalesce) [] = refl
numbers_once (Some Coalesce) (t ∷ ts) = one_answer t.nullable

pub numbers_lawful : Lawful numbers
numbers_lawful = record {
  once = λ c ts ls. numbers_once (number_function c) ts;
  no_row = λ c ts t p. numbers_no_row (number_function c) ts t p;
  fit = λ c ts t vs v p q h. numbers_fit (number_function c) ts t vs v p q h;
  rule_type = λ c ts t ls p. numbers_rule_type (number_function c) ts t p;
  rule_value = λ c ts t ls vs v p q a h. numbers_rule_value c (number_function c) ts t vs v p q h h;
}

abs_names : (v : Value) (i : ℕ) → abs_reply v ≢ argument i
abs_names v i p = let y : ◌≡◌ {A = ℕ} 0 1 = grind arith in omega arith

next_names : (v : Value) (vs : List Value) (i j : ℕ) (b : Bool)
    → (first_given (j + 1) vs ≡ argument i → i < (j + 1) + length vs)
    → cond b (first_given (j + 1) vs) (argument j) ≡ argument i → i < j + length (v ∷ vs)
next_names v vs i j true h p = omega (arith, h p)
next_names v vs i j false h p = let e : j ≡ i = cc in omega arith

-- the first that is given is one of the arguments
given_names : (vs : List Value) (i j : ℕ) → first_given j vs ≡ argument i → i < j + length vs
given_names [] i j p = absurd (let y : ◌≡◌ {A = ℕ} 0 1 = cc in omega arith)
given_names (v ∷ vs) i j p = next_names v vs i j (is_null v) (given_names vs i (j + 1)) p

few_names : (vs : List Value) (i : ℕ) (b : Bool) → cond b (first_given 0 vs) (fails 0) ≡ argument i → i < length vs
few_names vs i true p = omega (arith, given_names vs i 0 p)
few_names vs i false p = fails_argument 0 i p

names : (f : Option NumberFunction) (vs : List Value) (i : ℕ) → numbers_gives f vs ≡ argument i → i < length vs
names None vs i p = fails_argument 0 i p
names (Some Abs) [] i p = fails_argument 0 i p
names (Some Abs) (v ∷ []) i p = absurd (abs_names v i p)
names (Some Abs) (v ∷ (w ∷ vs)) i p = fails_argument 0 i p
names (Some Coalesce) vs i p = few_names vs i (nat_le (length vs) 8) p

pub numbers_names : NamesArguments numbers
numbers_names c i ts t vs p q h = names (number_function c) vs i h
