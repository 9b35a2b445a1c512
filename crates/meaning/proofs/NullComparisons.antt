-- A comparison with a null literal is null.
use Rattle.std.proofs.Common.{◌≡◌, Bool, true, false, cond, ◌||◌, List, [], ◌∷◌, Some, None, sym, refl, ap, ◌∙◌}
use Rattle.std.proofs.Common.{subst, arith}
use Rattle.std.proofs.lemmas.Option.{same_Some, cond_some}
use Rattle.vocabulary.specs.declared.operators.CompareOperator.{CompareOperator}
use Rattle.vocabulary.specs.declared.types.DType.{DType}
use Rattle.meaning.specs.Columns.{Schemas}
use Rattle.meaning.specs.Comparing.{compares}
use Rattle.meaning.specs.Evaluating.{Env, fn_value, eval, evals}
use Rattle.meaning.specs.Hosts.{Meaning}
use Rattle.meaning.specs.LawsOfRules.{Refines}
use Rattle.meaning.specs.Lists.{of_two}
use Rattle.meaning.specs.Literals.{lit, literal_of, is_null_literal, has_null_literal}
use Rattle.meaning.specs.Outcomes.{malformed, value, fault}
use Rattle.meaning.specs.Trees.{compare, Expr, node, Exprs, nil, cons}
use Rattle.meaning.specs.Typing.{compare_type, fn_type, typed, typed_all}
use Rattle.meaning.specs.Values.{Value, null, boolean, is_null}
use Rattle.meaning.proofs.CaseSplits.{none_some, fault_value, false_true, value_same, and_then_some}
use Rattle.meaning.proofs.CaseSplits.{then_value, of_two_some}
use Rattle.meaning.proofs.LiteralOperands.{literal_inv, null_literal, lit_typed, literal_eval}

-- one of the types is nullable
abbrev any_nullable : List DType → Bool
any_nullable [] = false
any_nullable (t ∷ ts) = t.nullable || any_nullable ts

-- one of the values is null
abbrev any_null : List Value → Bool
any_null [] = false
any_null (v ∷ vs) = is_null v || any_null vs

null_typed : (m : Meaning) (ss : Schemas) (e : Expr) (t : DType) → is_null_literal (literal_of e) ≡ true
    → typed m ss e ≡ Some t → t.nullable ≡ true
null_typed m ss e t h p =
    let (u, i) = literal_inv e null (null_literal (literal_of e) h) in
    let (j, f) = lit_typed m ss u t null (rw i at p) in
    subst (λ (z : DType). z.nullable ≡ true) j f

null_eval : (m : Meaning) (r : Env) (e : Expr) (v : Value) → is_null_literal (literal_of e) ≡ true
    → eval m r e ≡ value v → is_null v ≡ true
null_eval m r e v h q =
    subst (λ (z : Value). is_null z ≡ true)
    (value_same (sym (literal_eval m r e null (null_literal (literal_of e) h)) ∙ q)) refl

or_mono : (a b c d : Bool) → (a ≡ true → c ≡ true) → (b ≡ true → d ≡ true) → (a || b) ≡ true → (c || d) ≡ true
or_mono true b c d f g p = rw (f refl) refl
or_mono false b true d f g p = refl
or_mono false b false d f g p = g p

-- with a null literal among the children, one of their types is nullable
nulls_typed : (m : Meaning) (ss : Schemas) (es : Exprs) (ts : List DType) → has_null_literal es ≡ true
    → typed_all m ss es ≡ Some ts → any_nullable ts ≡ true
nulls_typed m ss nil ts h p = false_true h
nulls_typed m ss (cons e es) ts h p =
    let (ta, pa, p1) = and_then_some (typed m ss e) _ ts p in
    let (tb, pb, p2) = and_then_some (typed_all m ss es) _ ts p1 in
    subst (λ (z : List DType). any_nullable z ≡ true) (same_Some _ _ p2)
    (or_mono _ _ _ _ (λ k. null_typed m ss e ta k pa) (λ k. nulls_typed m ss es tb k pb) h)

-- and one of their values is null
nulls_eval : (m : Meaning) (r : Env) (es : Exprs) (vs : List Value) → has_null_literal es ≡ true
    → evals m r es ≡ value vs → any_null vs ≡ true
nulls_eval m r nil vs h q = false_true h
nulls_eval m r (cons e es) vs h q =
    let (va, qa, q1) = then_value (eval m r e) _ vs q in
    let (vb, qb, q2) = then_value (evals m r es) _ vs q1 in
    subst (λ (z : List Value). any_null z ≡ true) (value_same q2)
    (or_mono _ _ _ _ (λ k. null_eval m r e va k qa) (λ k. nulls_eval m r es vb k qb) h)

or_end : (a b : Bool) → (a || (b || false)) ≡ true → (a || b) ≡ true
or_end a b p = grind arith

-- a comparison with a null operand gives null
compare_null : (c : CompareOperator) (vs : List Value) (v : Value) → any_null vs ≡ true
    → of_two (fault malformed) (λ (v w : Value). compares c v w) vs ≡ value v → null ≡ v
compare_null c [] v p q = fault_value malformed v q
compare_null c (x ∷ []) v p q = fault_value malformed v q
compare_null c (x ∷ (y ∷ [])) v p q = value_same (rw (or_end (is_null x) (is_null y) p) at q)
compare_null c (x ∷ (y ∷ (z ∷ vs))) v p q = fault_value malformed v q

module _ (m : Meaning) (ss : Schemas) (r : Env) where
  -- so the literal null stands for the comparison
  null_compare_refines : (c : CompareOperator) (es : Exprs) (t : DType) → has_null_literal es ≡ true
      → typed m ss (node (compare c) es) ≡ Some t → Refines m ss r t (node (compare c) es) (lit (boolean true) null)
  unfolding fn_type fn_value
  null_compare_refines c es t h p =
      let (ts, ps, p1) = and_then_some (typed_all m ss es) _ t p in
      let (ta, tb, e, p2) = of_two_some compare_type ts t p1 in
      let (g, i) = cond_some _ _ _ p2 in
      let k : (ta.nullable || tb.nullable) ≡ true =
      or_end ta.nullable tb.nullable (rw e at (nulls_typed m ss es ts h ps)) in (
        ap (λ (z : Bool). Some (boolean z)) (sym k) ∙ ap Some i,
        λ v q.
            let (vs, qs, q1) = then_value (evals m r es) _ v q in
            ap value (compare_null c vs v (nulls_eval m r es vs h qs) q1),
      )

  -- what simplify answers at a comparison
  pub compare_refines : (c : CompareOperator) (es : Exprs) (t : DType) (d : Expr) (b : Bool) → has_null_literal es ≡ b
      → cond b (Some (lit (boolean true) null)) None ≡ Some d → typed m ss (node (compare c) es) ≡ Some t
      → Refines m ss r t (node (compare c) es) d
  compare_refines c es t d true h k p =
      subst (λ (z : Expr). Refines m ss r t (node (compare c) es) z) (same_Some _ _ k) (null_compare_refines c es t h p)
  compare_refines c es t d false h k p = none_some d k
