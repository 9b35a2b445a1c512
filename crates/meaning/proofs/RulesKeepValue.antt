-- Rules, rounds and optimizing keep the type, and the value wherever there is one.
use Rattle.std.proofs.Common.{◌≡◌, ℕ, zero, suc, List, Some, Option, refl, subst}
use Rattle.std.proofs.lemmas.Option.{same_Some}
use Rattle.vocabulary.specs.declared.types.DType.{DType}
use Rattle.meaning.specs.Columns.{Schemas}
use Rattle.meaning.specs.Evaluating.{Env, EnvFits, eval, evals}
use Rattle.meaning.specs.Hosts.{Meaning}
use Rattle.meaning.specs.Lawful.{Lawful}
use Rattle.meaning.specs.LawsOfRules.{Refines, SimplifyKeeps, ReduceKeeps, RoundKeeps, OptimizingKeeps}
use Rattle.meaning.specs.Literals.{has_null_literal}
use Rattle.meaning.specs.Optimizing.{rounds, map_all, map_children, optimize}
use Rattle.meaning.specs.Outcomes.{value}
use Rattle.meaning.specs.Rules.{simplify}
use Rattle.meaning.specs.Trees.{root, literal, get_item, cast, compare, compute, between, call, Expr, logic, node}
use Rattle.meaning.specs.Trees.{Exprs, nil, cons}
use Rattle.meaning.specs.Typing.{typed, typed_all}
use Rattle.meaning.specs.Values.{Value}
use Rattle.meaning.proofs.CaseSplits.{none_some, and_then_some, then_value}
use Rattle.meaning.proofs.HostRules.{host_rule_refines}
use Rattle.meaning.proofs.LogicRules.{logic_refines}
use Rattle.meaning.proofs.NullComparisons.{compare_refines}
use Rattle.meaning.proofs.RoundsOfRules.{reduce_simplify, round_relates, rounds_relate}

pub simplify_keeps : SimplifyKeeps
unfolding simplify
simplify_keeps m law ss r ok (logic o a b) d t p h = logic_refines m law ss r ok o a b d t p h
simplify_keeps m law ss r ok (node (root s) es) d t p h = none_some d h
simplify_keeps m law ss r ok (node (literal s v) es) d t p h = none_some d h
simplify_keeps m law ss r ok (node (get_item n) es) d t p h = none_some d h
simplify_keeps m law ss r ok (node (cast s) es) d t p h = none_some d h
simplify_keeps m law ss r ok (node (compare c) es) d t p h =
    compare_refines m ss r c es t d (has_null_literal es) refl h p
simplify_keeps m law ss r ok (node (compute o) es) d t p h = none_some d h
simplify_keeps m law ss r ok (node (between o) es) d t p h = none_some d h
simplify_keeps m law ss r ok (node (call c) es) d t p h = host_rule_refines m law ss r ok c es t d p h

pub reduce_keeps : ReduceKeeps
reduce_keeps m law ss r ok e d t p h = simplify_keeps m law ss r ok e d t p (reduce_simplify m ss e d h)

module _ (m : Meaning) (law : Lawful m) (ss : Schemas) (r : Env) (ok : EnvFits ss r) where
  -- b refines a, where a binds
  abbrev Refined : Expr → Expr → Type 0
  Refined a b = (t : DType) → typed m ss a ≡ Some t → Refines m ss r t a b

  refined_self : (a : Expr) → Refined a a
  refined_self a t p = (p, λ v q. q)

  refined_next : (a b c : Expr) → Refined a b → Refined b c → Refined a c
  refined_next a b c f g t p =
      let x = f t p in
      let y = g t x.0 in
      (y.0, λ v q. y.1 v (x.1 v q))

  refined_step : (a b : Expr) → simplify m ss a ≡ Some b → Refined a b
  refined_step a b h t p = simplify_keeps m law ss r ok a b t p h

pub round_keeps : RoundKeeps
round_keeps m law ss r ok e d t p h =
    round_relates m ss (Refined m law ss r ok) (refined_self m law ss r ok) (refined_next m law ss r ok)
    (refined_step m law ss r ok) e d h t p

module _ (m : Meaning) (law : Lawful m) (ss : Schemas) (r : Env) (ok : EnvFits ss r) where
  -- what f answers refines what it was asked of
  abbrev Improves : (Expr → Option Expr) → Type 0
  Improves f = (e d : Expr) (t : DType) → typed m ss e ≡ Some t → f e ≡ Some d → Refines m ss r t e d

  rounds_improve : (k : ℕ) → Improves (rounds m ss k)
  rounds_improve k e d t p h =
      rounds_relate m ss (Refined m law ss r ok) (refined_self m law ss r ok) (refined_next m law ss r ok)
      (refined_step m law ss r ok) k e d h t p

  all_improve : (f : Expr → Option Expr) → Improves f → (es ds : Exprs) (ts : List DType)
      → typed_all m ss es ≡ Some ts → map_all f es ≡ Some ds
      → (typed_all m ss ds ≡ Some ts) × ((vs : List Value) → evals m r es ≡ value vs → evals m r ds ≡ value vs)
  all_improve f i nil ds ts p h =
      subst
      (λ (z : Exprs).
      (typed_all m ss z ≡ Some ts) × ((vs : List Value) → evals m r nil ≡ value vs → evals m r z ≡ value vs))
      (same_Some _ _ h) (p, λ vs q. q)
  all_improve f i (cons e es) ds ts p h =
      let (d, a, h1) = and_then_some (f e) _ ds h in
      let (rest, b, h2) = and_then_some (map_all f es) _ ds h1 in
      let (ta, pa, p1) = and_then_some (typed m ss e) _ ts p in
      let (tb, pb, p2) = and_then_some (typed_all m ss es) _ ts p1 in
      let x = i e d ta pa a in
      let y = all_improve f i es rest tb pb b in
      subst
      (λ (z : Exprs).
      (typed_all m ss z ≡ Some ts) × ((vs : List Value) → evals m r (cons e es) ≡ value vs → evals m r z ≡ value vs))
      (same_Some _ _ h2) (
        simp (x.0, y.0) p2,
        λ vs q.
            let (va, qa, q1) = then_value (eval m r e) _ vs q in
            let (vb, qb, q2) = then_value (evals m r es) _ vs q1 in
            simp (x.1 va qa, y.1 vb qb) q2,
      )

  -- a node over refined children refines the node
  children_improve : (f : Expr → Option Expr) → Improves f → Improves (map_children f)
  children_improve f i (logic o a b) d t p h =
      let (c, ha, h1) = and_then_some (f a) _ d h in
      let (g, hb, h2) = and_then_some (f b) _ d h1 in
      let (ta, pa, p1) = and_then_some (typed m ss a) _ t p in
      let (tb, pb, p2) = and_then_some (typed m ss b) _ t p1 in
      let x = i a c ta pa ha in
      let y = i b g tb pb hb in
      subst (λ (z : Expr). Refines m ss r t (logic o a b) z) (same_Some _ _ h2) (
        simp (x.0, y.0) p2,
        λ v q.
            let (va, qa, q1) = then_value (eval m r a) _ v q in
            let (vb, qb, q2) = then_value (eval m r b) _ v q1 in
            simp (x.1 va qa, y.1 vb qb) q2,
      )
  children_improve f i (node g es) d t p h =
      let (ds, hs, h1) = and_then_some (map_all f es) _ d h in
      let (ts, ps, p1) = and_then_some (typed_all m ss es) _ t p in
      let x = all_improve f i es ds ts ps hs in
      subst (λ (z : Expr). Refines m ss r t (node g es) z) (same_Some _ _ h1)
      (simp x.0 p1, λ v q. let (vs, qs, q1) = then_value (evals m r es) _ v q in simp (x.1 vs qs) q1)

  optimize_improves : (k : ℕ) → Improves (optimize m ss k)
  unfolding optimize
  optimize_improves zero e d t p h = none_some d h
  optimize_improves (suc k) e d t p h =
      let (a, ha, h1) = and_then_some (rounds m ss 100 e) _ d h in
      let (b, hb, h2) = and_then_some (map_children (optimize m ss k) a) _ d h1 in
      let x = rounds_improve 100 e a t p ha in
      let y = children_improve (optimize m ss k) (optimize_improves k) a b t x.0 hb in
      let z = rounds_improve 100 b d t y.0 h2 in
      (z.0, λ v q. z.1 v (y.1 v (x.1 v q)))

pub optimizing_keeps : OptimizingKeeps
optimizing_keeps k m law ss r ok = optimize_improves m law ss r ok k
