-- The rule of a host keeps type and value.
use Rattle.std.proofs.Common.{◌≡◌, ℕ, zero, suc, List, [], ◌∷◌, Some, None, Option, sym, refl, ap, ◌∙◌, subst}
use Rattle.std.proofs.lemmas.Option.{same_Some}
use Rattle.vocabulary.specs.declared.types.DType.{DType}
use Rattle.meaning.specs.Columns.{Schemas}
use Rattle.meaning.specs.Evaluating.{Env, EnvFits, fn_value, eval, evals}
use Rattle.meaning.specs.Hosts.{Answer, nothing, child, constant, other, Meaning, host_value, host_type}
use Rattle.meaning.specs.Lawful.{Agree, answer_type, answer_value, Lawful}
use Rattle.meaning.specs.LawsOfRules.{Refines}
use Rattle.meaning.specs.Lists.{nth, picks}
use Rattle.meaning.specs.Literals.{literal_of, literals_of}
use Rattle.meaning.specs.Outcomes.{value, then, settled, and_then}
use Rattle.meaning.specs.Rules.{pick_children, answer_tree, host_rule}
use Rattle.meaning.specs.Trees.{call, Expr, node, Exprs, nil, cons, nth_child}
use Rattle.meaning.specs.Typing.{fn_type, typed, typed_all}
use Rattle.meaning.specs.Values.{Value}
use Rattle.meaning.proofs.CaseSplits.{none_some, value_same, and_then_some, mapped_some, then_value}
use Rattle.meaning.proofs.CaseSplits.{settled_some, settled_then, settled_cons}
use Rattle.meaning.proofs.LiteralOperands.{literal_eval}
use Rattle.meaning.proofs.ValuesFit.{all_values_fit}

-- the child at a place has the type at that place
nth_typed : (m : Meaning) (ss : Schemas) (es : Exprs) (ts : List DType) (i : ℕ) (d : Expr)
    → typed_all m ss es ≡ Some ts → nth_child es i ≡ Some d → typed m ss d ≡ nth ts i
nth_typed m ss nil ts i d p q = none_some d q
nth_typed m ss (cons e es) ts zero d p q =
    let (ta, pa, p1) = and_then_some (typed m ss e) _ ts p in
    let (tb, pb, p2) = and_then_some (typed_all m ss es) _ ts p1 in
    ap (typed m ss) (sym (same_Some _ _ q)) ∙ pa ∙ ap (λ (z : List DType). nth z zero) (same_Some _ _ p2)
nth_typed m ss (cons e es) ts (suc i) d p q =
    let (ta, pa, p1) = and_then_some (typed m ss e) _ ts p in
    let (tb, pb, p2) = and_then_some (typed_all m ss es) _ ts p1 in
    nth_typed m ss es tb i d pb q ∙ ap (λ (z : List DType). nth z (suc i)) (same_Some _ _ p2)

-- and the value at that place
nth_eval : (m : Meaning) (r : Env) (es : Exprs) (vs : List Value) (i : ℕ) (d : Expr) → evals m r es ≡ value vs
    → nth_child es i ≡ Some d → settled (eval m r d) ≡ nth vs i
nth_eval m r nil vs i d p q = none_some d q
nth_eval m r (cons e es) vs zero d p q =
    let (ta, pa, p1) = then_value (eval m r e) _ vs p in
    let (tb, pb, p2) = then_value (evals m r es) _ vs p1 in
    ap (λ (z : Expr). settled (eval m r z)) (sym (same_Some _ _ q))
    ∙ ap settled pa
    ∙ ap (λ (z : List Value). nth z zero) (value_same p2)
nth_eval m r (cons e es) vs (suc i) d p q =
    let (ta, pa, p1) = then_value (eval m r e) _ vs p in
    let (tb, pb, p2) = then_value (evals m r es) _ vs p1 in
    nth_eval m r es tb i d pb q ∙ ap (λ (z : List Value). nth z (suc i)) (value_same p2)

-- so do children picked by their places
pick_typed : (m : Meaning) (ss : Schemas) (es : Exprs) (ts : List DType) (is : List ℕ) (ds : Exprs)
    → typed_all m ss es ≡ Some ts → pick_children es is ≡ Some ds → typed_all m ss ds ≡ picks ts is
pick_typed m ss es ts [] ds p q = ap (typed_all m ss) (sym (same_Some _ _ q))
pick_typed m ss es ts (i ∷ is) ds p q =
    let (d, a, q1) = and_then_some (nth_child es i) _ ds q in
    let (rest, b, q2) = and_then_some (pick_children es is) _ ds q1 in
    ap (typed_all m ss) (sym (same_Some _ _ q2))
    ∙ simp (nth_typed m ss es ts i d p a, pick_typed m ss es ts is rest p b)

pick_eval : (m : Meaning) (r : Env) (es : Exprs) (vs : List Value) (is : List ℕ) (ds : Exprs)
    → evals m r es ≡ value vs → pick_children es is ≡ Some ds → settled (evals m r ds) ≡ picks vs is
pick_eval m r es vs [] ds p q = ap (λ (z : Exprs). settled (evals m r z)) (sym (same_Some _ _ q))
pick_eval m r es vs (i ∷ is) ds p q =
    let (d, a, q1) = and_then_some (nth_child es i) _ ds q in
    let (rest, b, q2) = and_then_some (pick_children es is) _ ds q1 in
    ap (λ (z : Exprs). settled (evals m r z)) (sym (same_Some _ _ q2))
    ∙ settled_cons (eval m r d) (evals m r rest)
    ∙ simp (nth_eval m r es vs i d p a, pick_eval m r es vs is rest p b)

agree_cons : (l : Option Value) (ls : List (Option Value)) (v : Value) (vs : List Value)
    → ((w : Value) → l ≡ Some w → v ≡ w) → Agree ls vs → Agree (l ∷ ls) (v ∷ vs)
agree_cons None ls v vs f g = g
agree_cons (Some w) ls v vs f g = (f w refl, g)

-- the literals among the children hold the children's values
agrees : (m : Meaning) (r : Env) (es : Exprs) (vs : List Value) → evals m r es ≡ value vs → Agree (literals_of es) vs
agrees m r nil vs q = subst (Agree []) (value_same q) tt
agrees m r (cons e es) vs q =
    let (va, qa, q1) = then_value (eval m r e) _ vs q in
    let (vb, qb, q2) = then_value (evals m r es) _ vs q1 in
    subst (Agree (literals_of (cons e es))) (value_same q2)
    (agree_cons (literal_of e) (literals_of es) va vb (λ w k. value_same (sym qa ∙ literal_eval m r e w k))
    (agrees m r es vb qb))

module _ (m : Meaning) (law : Lawful m) (ss : Schemas) (r : Env) (ok : EnvFits ss r) where
  -- d answers for the call of c over es
  abbrev Stands : DType → List DType → Exprs → ℕ → Expr → Type 0
  Stands t ts es c d =
      (typed m ss d ≡ Some t)
      × ((vs : List Value) (v : Value) → evals m r es ≡ value vs → host_value m c vs ≡ value v → eval m r d ≡ value v)

  -- the tree of a lawful answer answers for the call
  answer_stands : (c : ℕ) (es : Exprs) (ts : List DType) (t : DType) (d : Expr) (x : Answer)
      → typed_all m ss es ≡ Some ts → answer_type m t ts x ≡ Some t
      → ((vs : List Value) (v : Value) → evals m r es ≡ value vs → host_value m c vs ≡ value v
      → answer_value m c vs x ≡ Some v)
      → answer_tree t es x ≡ Some d → Stands t ts es c d
  unfolding fn_type fn_value
  answer_stands c es ts t d nothing p a f q = none_some d q
  answer_stands c es ts t d (child i) p a f q = (
    nth_typed m ss es ts i d p q ∙ a,
    λ vs v g h. settled_some (eval m r d) v (nth_eval m r es vs i d g q ∙ f vs v g h),
  )
  answer_stands c es ts t d (constant w) p a f q =
      subst (λ (z : Expr). Stands t ts es c z) (same_Some _ _ q) (a, λ vs v g h. ap value (same_Some _ _ (f vs v g h)))
  answer_stands c es ts t d (other k is) p a f q =
      let (ds, b, e) = mapped_some (node (call k)) (pick_children es is) d q in
      subst (λ (z : Expr). Stands t ts es c z) e (
        ap (λ (z : Option (List DType)). and_then z (host_type m k)) (pick_typed m ss es ts is ds p b) ∙ a,
        λ vs v g h.
            settled_some (then (evals m r ds) (host_value m k)) v
            (settled_then (evals m r ds) (host_value m k)
            ∙ ap (λ (z : Option (List Value)). and_then z (λ (ws : List Value). settled (host_value m k ws)))
            (pick_eval m r es vs is ds g b)
            ∙ f vs v g h),
      )

  -- what simplify answers at a call
  pub host_rule_refines : (c : ℕ) (es : Exprs) (t : DType) (d : Expr) → typed m ss (node (call c) es) ≡ Some t
      → host_rule m ss c es ≡ Some d → Refines m ss r t (node (call c) es) d
  unfolding fn_type fn_value
  host_rule_refines c es t d p h =
      let (us, b, h1) = and_then_some (typed_all m ss es) _ d h in
      let (u, a, h2) = and_then_some (typed m ss (node (call c) es)) _ d h1 in
      let e : u ≡ t = same_Some _ _ (sym a ∙ p) in
      let k : host_type m c us ≡ Some t = ap (λ (z : Option (List DType)). and_then z (host_type m c)) (sym b) ∙ p in
      let g : answer_tree t es (m.rule c us (literals_of es)) ≡ Some d = rw e at h2 in
      let (x, y) =
      answer_stands c es us t d (m.rule c us (literals_of es)) b (law.rule_type c us t (literals_of es) k)
      (λ vs v i j.
      law.rule_value c us t (literals_of es) vs v k (all_values_fit m law ss r ok es us vs b i)
      (agrees m r es vs i) j) g in
      (x, λ v q. let (vs, qs, q1) = then_value (evals m r es) _ v q in y vs v qs q1)
