-- The host Labels is lawful.
use Rattle.std.specs.Prelude.{◌≡◌, ℕ, true, cond, ◌&&◌, ◌||◌, List, [], ◌∷◌, length, is_some, Some, None, Option, ◌≢◌}
use Rattle.std.specs.Prelude.{nat_le, refl}
use Rattle.std.proofs.Common.{ap, subst, arith}
use Rattle.vocabulary.specs.declared.types.DType.{DType}
use Rattle.vocabulary.specs.declared.types.Kind.TheVariants as kind
use Rattle.vocabulary.specs.Types.{plain_kind, type_of}
use Rattle.meaning.specs.Outcomes.{value, settled}
use Rattle.meaning.specs.Values.{Value, fits, all_fit}
use Rattle.meaning.specs.Hosts.{argument, reply_value, all_plain}
use Rattle.meaning.specs.Lawful.{Lawful, NamesArguments}
use Rattle.hosts.specs.declared.labels.LabelFunction.{LabelFunction}
use Rattle.hosts.specs.declared.labels.LabelFunction.TheVariants.{Length, StartsWith}
use Rattle.hosts.specs.Labels.{labels, label_function, labels_takes, labels_types, labels_gives}
use Rattle.hosts.specs.Labels.{length_type, starts_type, length_reply, starts_reply}
use Rattle.hosts.specs.Tools.{under_test}
use Rattle.std.proofs.lemmas.Option.{cond_some}
use Rattle.meaning.proofs.CaseSplits.{none_some, of_one_some, of_two_some}
use Rattle.meaning.proofs.FitsTypes.{fit_one, fit_two}

length_fits : (w : Value) (ws : List Value) (u : DType) (v : Value) → fits w u ≡ true
    → reply_value ws (length_reply w) ≡ value v → fits v (type_of kind.U64 u.nullable) ≡ true
length_fits w ws u v p h = grind arith

starts_fits : (x w : Value) (ws : List Value) (t u : DType) (v : Value) → fits x t ≡ true → fits w u ≡ true
    → reply_value ws (starts_reply x w) ≡ value v → fits v (type_of kind.Bool (t.nullable || u.nullable)) ≡ true
starts_fits x w ws t u v p q h = grind arith

-- the type of a call, by its function
abbrev typed : Option LabelFunction → List DType → Option DType
typed f ts =
    cond (is_some f && (labels_takes f (length ts) && (nat_le (length ts) 8 && all_plain ts))) (labels_types f ts) None

-- a type of the length is that of one argument
length_typed : (ts : List DType) (t : DType) → typed (Some Length) ts ≡ Some t
    → (u : DType) × (ts ≡ u ∷ []) × (type_of kind.U64 u.nullable ≡ t)
length_typed ts t p =
    let (u, e, g) = of_one_some length_type ts t (under_test _ _ _ p).1 in
    (u, e, (cond_some _ _ _ g).1)

-- a type of the test is that of two arguments
starts_typed : (ts : List DType) (t : DType) → typed (Some StartsWith) ts ≡ Some t
    → (s u : DType) × (ts ≡ s ∷ u ∷ []) × (type_of kind.Bool (s.nullable || u.nullable) ≡ t)
starts_typed ts t p =
    let (s, u, e, g) = of_two_some starts_type ts t (under_test _ _ _ p).1 in
    (s, u, e, (cond_some _ _ _ g).1)

labels_fit : (f : Option LabelFunction) (ts : List DType) (t : DType) (vs : List Value) (v : Value)
    → typed f ts ≡ Some t → all_fit vs ts ≡ true → reply_value vs (labels_gives f vs) ≡ value v → fits v t ≡ true
labels_fit None ts t vs v p q h = none_some t p
labels_fit (Some Length) ts t vs v p q h =
    let (u, e, i) = length_typed ts t p in
    let (w, k, j) = fit_one vs u (rw e at q) in
    subst (λ z. fits v z ≡ true) i (length_fits w (w ∷ []) u v j (rw k at h))
labels_fit (Some StartsWith) ts t vs v p q h =
    let (s, u, e, i) = starts_typed ts t p in
    let (x, w, k, j, o) = fit_two vs s u (rw e at q) in
    subst (λ z. fits v z ≡ true) i (starts_fits x w (x ∷ w ∷ []) s u v j o (rw k at h))

labels_no_row : (f : Option LabelFunction) (ts : List DType) (t : DType)
    → typed f ts ≡ Some t → plain_kind t.kind ≡ true
labels_no_row None ts t p = none_some t p
labels_no_row (Some Length) ts t p =
    let (u, e, i) = length_typed ts t p in
    subst (λ z. plain_kind z.kind ≡ true) i refl
labels_no_row (Some StartsWith) ts t p =
    let (s, u, e, i) = starts_typed ts t p in
    subst (λ z. plain_kind z.kind ≡ true) i refl

pub labels_lawful : Lawful labels
labels_lawful = record {
  once = λ c ts ls. refl;
  no_row = λ c ts t p. labels_no_row (label_function c) ts t p;
  fit = λ c ts t vs v p q h. labels_fit (label_function c) ts t vs v p q h;
  rule_type = λ c ts t ls p. refl;
  rule_value = λ c ts t ls vs v p q a h. ap settled h;
}

-- no function replies an argument
no_argument : (f : Option LabelFunction) (vs : List Value) (i : ℕ) → labels_gives f vs ≢ argument i
no_argument f vs i p = let y : ◌≡◌ {A = ℕ} 0 1 = grind arith in omega arith

pub labels_names : NamesArguments labels
labels_names c i ts t vs p q h = absurd (no_argument (label_function c) vs i h)
