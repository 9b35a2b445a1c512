-- The value of an expression fits its type.
use Rattle.std.proofs.Common.{◌≡◌, ℕ, true, List, Some, sym, refl, subst, arith}
use Rattle.std.proofs.lemmas.Bool.{and_parts, and_from}
use Rattle.std.proofs.lemmas.Bool.Decides.{nat_tests}
use Rattle.std.proofs.lemmas.Option.{same_Some, cond_some}
use Rattle.vocabulary.specs.declared.types.DType.{DType}
use Rattle.vocabulary.specs.declared.types.Kind.{Kind}
use Rattle.vocabulary.specs.declared.types.Kind.TheVariants as kind
use Rattle.meaning.specs.Columns.{Schemas, column_type}
use Rattle.meaning.specs.Evaluating.{Env, EnvFits, item_value, fn_value, eval, evals}
use Rattle.meaning.specs.Hosts.{Meaning}
use Rattle.meaning.specs.Lawful.{Lawful}
use Rattle.meaning.specs.LawsOfEvaluating.{ValuesFit}
use Rattle.meaning.specs.Outcomes.{malformed, value}
use Rattle.meaning.specs.Trees.{Fn, root, literal, get_item, cast, compare, compute, between, call, logic, node}
use Rattle.meaning.specs.Trees.{Exprs, nil, cons}
use Rattle.meaning.specs.Typing.{item_type, compare_type, compute_type, between_type, cast_type, fn_type, typed}
use Rattle.meaning.specs.Typing.{typed_all}
use Rattle.meaning.specs.Values.{Value, null, bool, signed, unsigned, text, ext, whole, fits, all_fit}
use Rattle.meaning.proofs.CaseSplits.{fault_value, value_same, and_then_some, then_value}
use Rattle.meaning.proofs.CaseSplits.{of_none_is, of_none_some, of_one_some, of_two_some, of_three_some}
use Rattle.meaning.proofs.FitsTypes.{one_kind, compare_fits, logic_fits, compute_fits, between_fits, cast_fits}
use Rattle.meaning.proofs.FitsTypes.{fit_nil, fit_one, fit_two, fit_three}

module _ (m : Meaning) (law : Lawful m) (ss : Schemas) (r : Env) (ok : EnvFits ss r) where
  -- the column that a GetItem reads
  item_fits : (n : List ℕ) (t s : DType) (v x : Value) → item_type ss n t.kind ≡ Some s → fits v t ≡ true
      → item_value r n v ≡ value x → fits x s ≡ true
  item_fits n t s null x p q k = fault_value malformed x k
  item_fits n t s (bool b) x p q k = fault_value malformed x k
  item_fits n t s (signed z) x p q k = fault_value malformed x k
  item_fits n t s (unsigned z) x p q k = fault_value malformed x k
  item_fits n t s (text z) x p q k = fault_value malformed x k
  item_fits n t s (ext e z) x p q k = fault_value malformed x k
  item_fits n t s (whole z) x p q k =
      let e : column_type ss z n ≡ Some s =
      subst (λ (y : Kind). item_type ss n y ≡ Some s) (sym (one_kind (kind.Row z) t.kind q)) p in
      subst (λ (y : Value). fits y s ≡ true) (value_same k) (ok.fit z n s e)

  -- the value of a node fits, if those of its children do
  fn_fits : (f : Fn) (ts : List DType) (vs : List Value) (t : DType) (v : Value) → fn_type m ss f ts ≡ Some t
      → all_fit vs ts ≡ true → fn_value m r f vs ≡ value v → fits v t ≡ true
  unfolding fn_type fn_value
  fn_fits (root s) ts vs t v p q h =
      let (e, g) = of_none_is _ ts t p in
      let k = fit_nil vs (rw e at q) in
      let j = value_same (rw k at h) in
      rw (← j, ← g) (grind (arith, nat_tests))
  fn_fits (literal s x) ts vs t v p q h =
      let (e, g) = of_none_some _ ts t p in
      let (c, j) = cond_some _ _ _ g in
      let k = fit_nil vs (rw e at q) in
      let i = value_same (rw k at h) in
      rw (← i, ← j) (and_parts _ _ c).0
  fn_fits (get_item n) ts vs t v p q h =
      let (u, e, g) = of_one_some (λ t. item_type ss n t.kind) ts t p in
      let (w, k, j) = fit_one vs u (rw e at q) in
      item_fits n u t w v g j (rw k at h)
  fn_fits (cast s) ts vs t v p q h =
      let (u, e, g) = of_one_some (λ u. cast_type s u) ts t p in
      let (w, k, j) = fit_one vs u (rw e at q) in
      subst (λ (z : Value). fits z t ≡ true) (value_same (rw k at h)) (cast_fits s u t w g j)
  fn_fits (compare c) ts vs t v p q h =
      let (s, u, e, g) = of_two_some compare_type ts t p in
      let (x, w, k, j, l) = fit_two vs s u (rw e at q) in
      compare_fits c s u t x w v g j l (rw k at h)
  fn_fits (compute o) ts vs t v p q h =
      let (s, u, e, g) = of_two_some compute_type ts t p in
      let (x, w, k, j, l) = fit_two vs s u (rw e at q) in
      compute_fits o s u t x w v g j l (rw k at h)
  fn_fits (between o) ts vs t v p q h =
      let (s, u, i, e, g) = of_three_some between_type ts t p in
      let (x, w, y, k, j, l, n) = fit_three vs s u i (rw e at q) in
      between_fits o s u i t x w y v g j l n (rw k at h)
  fn_fits (call c) ts vs t v p q h = law.fit c ts t vs v p q h

mutual
  pub values_fit : ValuesFit
  values_fit m law ss r ok (logic o a b) t v p q =
      let (ta, pa, p1) = and_then_some (typed m ss a) _ t p in
      let (tb, pb, p2) = and_then_some (typed m ss b) _ t p1 in
      let (va, qa, q1) = then_value (eval m r a) _ v q in
      let (vb, qb, q2) = then_value (eval m r b) _ v q1 in
      subst (λ (z : Value). fits z t ≡ true) (value_same q2)
      (logic_fits o ta tb t va vb p2 (values_fit m law ss r ok a ta va pa qa)
      (values_fit m law ss r ok b tb vb pb qb))
  values_fit m law ss r ok (node f es) t v p q =
      let (ts, ps, p1) = and_then_some (typed_all m ss es) _ t p in
      let (vs, qs, q1) = then_value (evals m r es) _ v q in
      fn_fits m law ss r ok f ts vs t v p1 (all_values_fit m law ss r ok es ts vs ps qs) q1

  -- the values of children fit the types of the children
  pub all_values_fit : (m : Meaning) → Lawful m → (ss : Schemas) (r : Env) → EnvFits ss r
      → (es : Exprs) (ts : List DType) (vs : List Value) → typed_all m ss es ≡ Some ts → evals m r es ≡ value vs
      → all_fit vs ts ≡ true
  all_values_fit m law ss r ok nil ts vs p q = rw (← (same_Some _ _ p), ← (value_same q)) refl
  all_values_fit m law ss r ok (cons e es) ts vs p q =
      let (ta, pa, p1) = and_then_some (typed m ss e) _ ts p in
      let (tb, pb, p2) = and_then_some (typed_all m ss es) _ ts p1 in
      let (va, qa, q1) = then_value (eval m r e) _ vs q in
      let (vb, qb, q2) = then_value (evals m r es) _ vs q1 in
      rw (← (same_Some _ _ p2), ← (value_same q2))
      (and_from _ _ (values_fit m law ss r ok e ta va pa qa) (all_values_fit m law ss r ok es tb vb pb qb))
