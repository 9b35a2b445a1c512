-- An infallible expression has a value.
use Rattle.std.proofs.Common.{◌≡◌, ℕ, Bool, true, false, cond, ◌&&◌, ◌||◌, List, [], ◌∷◌, Some, sym, refl, ap, ◌∙◌}
use Rattle.std.proofs.Common.{subst, arith}
use Rattle.std.proofs.lemmas.Bool.{and_parts}
use Rattle.std.proofs.lemmas.Option.{same_Some, cond_some}
use Rattle.vocabulary.specs.Types.{same_kind, plain_kind}
use Rattle.vocabulary.specs.declared.operators.BetweenOptions.{BetweenOptions}
use Rattle.vocabulary.specs.declared.operators.CompareOperator.{CompareOperator}
use Rattle.vocabulary.specs.declared.operators.Connective.TheVariants.{And}
use Rattle.vocabulary.specs.declared.types.DType.{DType}
use Rattle.vocabulary.specs.declared.types.Kind.{Kind}
use Rattle.vocabulary.specs.declared.types.Kind.TheVariants as kind
use Rattle.meaning.specs.Columns.{Schemas, ColumnsPlain}
use Rattle.meaning.specs.Comparing.{holds, alike, compares, bound_operator, lies_between}
use Rattle.meaning.specs.Evaluating.{Env, EnvFits, item_value, fn_value, evals}
use Rattle.meaning.specs.Hosts.{Meaning}
use Rattle.meaning.specs.Infallible.{Safe, SafeLaw, fn_safe, with_types, infallibles, InfallibleHasValue}
use Rattle.meaning.specs.Kleene.{kleene}
use Rattle.meaning.specs.Lawful.{Lawful}
use Rattle.meaning.specs.Lists.{of_none, of_one}
use Rattle.meaning.specs.Outcomes.{unlike, malformed, value, fault}
use Rattle.meaning.specs.Trees.{Fn, root, literal, get_item, cast, compare, compute, between, call, Expr, logic, node}
use Rattle.meaning.specs.Trees.{Exprs, nil, cons}
use Rattle.meaning.specs.Typing.{item_type, compare_type, between_type, cast_type, fn_type, typed, typed_all}
use Rattle.meaning.specs.Values.{Value, null, bool, signed, unsigned, text, ext, whole, is_null, kind_of, fits}
use Rattle.meaning.specs.Values.{all_fit}
use Rattle.meaning.proofs.CaseSplits.{none_some, false_true, and_then_some, of_none_is}
use Rattle.meaning.proofs.CaseSplits.{of_none_some, of_one_some, of_two_some, of_three_some}
use Rattle.meaning.proofs.FitsTypes.{one_kind, kinds_commute, fit_nil, fit_one, fit_two, fit_three}
use Rattle.meaning.proofs.RowsAtRoots.{item_rowless, typed_cons, rows_are_roots}
use Rattle.meaning.proofs.ValuesFit.{all_values_fit}

-- a value other than null has the kind of its type
solid_kind : (v : Value) (t : DType) → is_null v ≡ false → fits v t ≡ true → kind_of v ≡ t.kind
solid_kind null t p h = false_true (sym p)
solid_kind (bool b) t p h = one_kind kind.Bool t.kind h
solid_kind (signed b) t p h = one_kind kind.I64 t.kind (and_parts _ _ h).0
solid_kind (unsigned b) t p h = one_kind kind.U64 t.kind (and_parts _ _ h).0
solid_kind (text b) t p h = one_kind kind.Utf8 t.kind (and_parts _ _ h).0
solid_kind (ext e b) t p h = one_kind (kind.Extension e) t.kind (and_parts _ _ h).0
solid_kind (whole b) t p h = one_kind (kind.Row b) t.kind h

-- values of alike types compare
compare_some : (c : CompareOperator) (t u : DType) (v w : Value) → same_kind t.kind u.kind ≡ true
    → fits v t ≡ true → fits w u ≡ true → (x : Value) × (compares c v w ≡ value x)
compare_some c t u v w l p q = go (is_null v) (is_null w) refl refl
  where
    go : (a b : Bool) → is_null v ≡ a → is_null w ≡ b
        → (x : Value)
        × (cond (a || b) (value null) (cond (alike v w) (value (bool (holds c v w))) (fault unlike)) ≡ value x)
    go true b i j = (null, refl)
    go false true i j = (null, refl)
    go false false i j =
        let e : alike v w ≡ true =
        ap (λ (k : Kind). same_kind k (kind_of w)) (solid_kind v t i p)
        ∙ ap (same_kind t.kind) (solid_kind w u j q)
        ∙ l in
        (bool (holds c v w), ap (λ (z : Bool). cond z (value (bool (holds c v w))) (fault unlike)) e)

-- the bounds of a Between are like its column
between_alike : (t l u s : DType) → between_type t l u ≡ Some s
    → (same_kind t.kind l.kind ≡ true) × (same_kind t.kind u.kind ≡ true)
between_alike t l u s h =
    last_two (plain_kind t.kind) (plain_kind l.kind) (plain_kind u.kind) (same_kind t.kind l.kind)
    (same_kind t.kind u.kind) (cond_some _ _ _ h).0
  where
    last_two : (a b c d e : Bool) → ((a && b) && (c && (d && e))) ≡ true → (d ≡ true) × (e ≡ true)
    last_two a b c d e h = (grind arith, grind arith)

-- so a Between of fitting values has a value
between_some : (o : BetweenOptions) (t l u s : DType) (x y z : Value) → between_type t l u ≡ Some s → fits x t ≡ true
    → fits y l ≡ true → fits z u ≡ true → (v : Value) × (lies_between o x y z ≡ value v)
between_some o t l u s x y z h fx fy fz =
    let (tl, tu) = between_alike t l u s h in
    let (v, p) =
    compare_some (bound_operator o.lower_strict) l t y x (kinds_commute l.kind t.kind ∙ tl) fy fx in
    let (w, q) = compare_some (bound_operator o.upper_strict) t u x z tu fx fz in
    (kleene And v w, simp (p, q))

-- a GetItem that binds reads a value whose kind is a Row
item_kind : (n : List ℕ) (ss : Schemas) (t s : DType) (v : Value) → item_type ss n t.kind ≡ Some s
    → is_null v ≡ false → fits v t ≡ true → item_type ss n (kind_of v) ≡ Some s
item_kind n ss t s v h i p = subst (λ (k : Kind). item_type ss n k ≡ Some s) (sym (solid_kind v t i p)) h

-- so it has a value
pub item_some : (r : Env) (n : List ℕ) (ss : Schemas) (t s : DType) (v : Value) → t.nullable ≡ false
    → item_type ss n t.kind ≡ Some s → fits v t ≡ true → (x : Value) × (item_value r n v ≡ value x)
item_some r n ss t s null o h p = false_true (sym o ∙ p)
item_some r n ss t s (bool b) o h p = none_some s (item_kind n ss t s (bool b) h refl p)
item_some r n ss t s (signed z) o h p = none_some s (item_kind n ss t s (signed z) h refl p)
item_some r n ss t s (unsigned k) o h p = none_some s (item_kind n ss t s (unsigned k) h refl p)
item_some r n ss t s (text bs) o h p = none_some s (item_kind n ss t s (text bs) h refl p)
item_some r n ss t s (ext e z) o h p = none_some s (item_kind n ss t s (ext e z) h refl p)
item_some r n ss t s (whole q) o h p = (r q n, refl)

-- a Row is not nullable
row_solid : (m : Meaning) → Lawful m → (ss : Schemas) → ColumnsPlain ss → (e : Expr) (t : DType) (s : ℕ)
    → typed m ss e ≡ Some t → t.kind ≡ kind.Row s → t.nullable ≡ false
unfolding fn_type
row_solid m law ss plainly e t s p k =
    ap (λ (z : DType). z.nullable)
    (sym (same_Some _ _ (ap (typed m ss) (sym (rows_are_roots m law ss plainly e t s p k)) ∙ p)))

-- so the operand of a GetItem is not nullable
pub item_solid : (m : Meaning) → Lawful m → (ss : Schemas) → ColumnsPlain ss → (es : Exprs) (ts : List DType)
    → typed_all m ss es ≡ Some ts → (u : DType) (s : ℕ) → ts ≡ u ∷ [] → u.kind ≡ kind.Row s → u.nullable ≡ false
item_solid m law ss plainly es ts p u s e k =
    let (d, ds, j, a, b) = typed_cons m ss es u [] (rw e at p) in row_solid m law ss plainly d u s a k

module _ (m : Meaning) (law : Lawful m) (ss : Schemas) (r : Env) (ok : EnvFits ss r) (safe : Safe)
    (sl : SafeLaw m safe) (plainly : ColumnsPlain ss) where
  -- a node that cannot fault has a value over fitting values
  fn_some : (f : Fn) (ts : List DType) (vs : List Value) (t : DType) → fn_type m ss f ts ≡ Some t
      → all_fit vs ts ≡ true → fn_safe safe f ts ≡ true
      → ((u : DType) (s : ℕ) → ts ≡ u ∷ [] → u.kind ≡ kind.Row s → u.nullable ≡ false)
      → (v : Value) × (fn_value m r f vs ≡ value v)
  unfolding fn_type fn_value
  fn_some (root s) ts vs t p q h o =
      let (e, g) = of_none_is _ ts t p in
      (whole s, ap (of_none (fault malformed) (value (whole s))) (fit_nil vs (rw e at q)))
  fn_some (literal s x) ts vs t p q h o =
      let (e, g) = of_none_some _ ts t p in
      (x, ap (of_none (fault malformed) (value x)) (fit_nil vs (rw e at q)))
  fn_some (get_item n) ts vs t p q h o =
      let (u, e, g) = of_one_some (λ t. item_type ss n t.kind) ts t p in
      let (w, k, j) = fit_one vs u (rw e at q) in
      let (z, i, _) = item_rowless ss plainly n u.kind t g in
      rw k (item_some r n ss u t w (o u z e i) g j)
  fn_some (cast s) ts vs t p q h o =
      let (u, e, g) = of_one_some (λ u. cast_type s u) ts t p in
      let (w, k, j) = fit_one vs u (rw e at q) in
      (w, ap (of_one (fault malformed) (λ (v : Value). value v)) k)
  fn_some (compare c) ts vs t p q h o =
      let (s, u, e, g) = of_two_some compare_type ts t p in
      let (x, w, k, j, l) = fit_two vs s u (rw e at q) in
      rw k (compare_some c s u x w (rw e at h) j l)
  fn_some (compute a) ts vs t p q h o = false_true h
  fn_some (between w') ts vs t p q h o =
      let (s, u, i, e, g) = of_three_some between_type ts t p in
      let (x, w, y, k, j, l, n) = fit_three vs s u i (rw e at q) in
      rw k (between_some w' s u i t x w y g j l n)
  fn_some (call c) ts vs t p q h o = sl c ts t vs p h q

mutual
  pub infallible_has_value : InfallibleHasValue
  infallible_has_value m law ss r ok safe sl plainly (logic o a b) t p h =
      let (ta, pa, p1) = and_then_some (typed m ss a) _ t p in
      let (tb, pb, p2) = and_then_some (typed m ss b) _ t p1 in
      let (ha, hb) = and_parts _ _ h in
      let (v, x) = infallible_has_value m law ss r ok safe sl plainly a ta pa ha in
      let (w, y) = infallible_has_value m law ss r ok safe sl plainly b tb pb hb in
      (kleene o v w, simp (x, y))
  infallible_has_value m law ss r ok safe sl plainly (node f es) t p h =
      let (ts, ps, p1) = and_then_some (typed_all m ss es) _ t p in
      let (hf, hs) = and_parts _ _ h in
      let (vs, x) = have_values m law ss r ok safe sl plainly es ts ps hs in
      let g : fn_safe safe f ts ≡ true = ap (with_types safe f) (sym ps) ∙ hf in
      let (v, y) =
      fn_some m law ss r ok safe sl plainly f ts vs t p1 (all_values_fit m law ss r ok es ts vs ps x) g
      (item_solid m law ss plainly es ts ps) in
      (v, simp x y)

  -- infallible children have values
  have_values : (m : Meaning) → Lawful m → (ss : Schemas) (r : Env) → EnvFits ss r → (safe : Safe) → SafeLaw m safe
      → ColumnsPlain ss → (es : Exprs) (ts : List DType) → typed_all m ss es ≡ Some ts
      → infallibles m ss safe es ≡ true → (vs : List Value) × (evals m r es ≡ value vs)
  have_values m law ss r ok safe sl plainly nil ts p h = ([], refl)
  have_values m law ss r ok safe sl plainly (cons e es) ts p h =
      let (ta, pa, p1) = and_then_some (typed m ss e) _ ts p in
      let (tb, pb, p2) = and_then_some (typed_all m ss es) _ ts p1 in
      let (ha, hb) = and_parts _ _ h in
      let (v, x) = infallible_has_value m law ss r ok safe sl plainly e ta pa ha in
      let (vs, y) = have_values m law ss r ok safe sl plainly es tb pb hb in
      (v ∷ vs, simp (x, y))
