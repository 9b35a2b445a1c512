-- An expression that binds never faults as malformed.
use Rattle.std.proofs.Common.{◌≡◌, ℕ, zero, suc, ◌<◌, Bool, true, false, cond, ◌||◌, List, [], ◌∷◌, length, Some, sym}
use Rattle.std.proofs.Common.{refl, ap, ◌∙◌, arith}
use Rattle.vocabulary.specs.declared.operators.Arithmetic.{Arithmetic}
use Rattle.vocabulary.specs.declared.operators.BetweenOptions.{BetweenOptions}
use Rattle.vocabulary.specs.declared.operators.CompareOperator.{CompareOperator}
use Rattle.vocabulary.specs.declared.types.DType.{DType}
use Rattle.vocabulary.specs.declared.types.Kind.TheVariants as kind
use Rattle.meaning.specs.Columns.{Schemas, ColumnsPlain}
use Rattle.meaning.specs.Comparing.{holds, alike, compares, bound_operator, lies_between}
use Rattle.meaning.specs.Computing.{compute_signed, compute_unsigned, computes}
use Rattle.meaning.specs.Evaluating.{Env, EnvFits, fn_value, eval, evals}
use Rattle.meaning.specs.Hosts.{Reply, argument, plain, fails, Meaning, argument_value, reply_value}
use Rattle.meaning.specs.Lawful.{Lawful, NamesArguments}
use Rattle.meaning.specs.LawsOfEvaluating.{BoundTreesAreWellFormed}
use Rattle.meaning.specs.Lists.{of_none, nth}
use Rattle.meaning.specs.Outcomes.{arithmetic, unlike, host, malformed, Outcome, value, fault, then}
use Rattle.meaning.specs.Trees.{Fn, root, literal, get_item, cast, compare, compute, between, call, Expr, logic, node}
use Rattle.meaning.specs.Trees.{Exprs, nil, cons}
use Rattle.meaning.specs.Typing.{item_type, compare_type, compute_type, between_type, cast_type, fn_type, typed}
use Rattle.meaning.specs.Typing.{typed_all}
use Rattle.meaning.specs.Values.{Value, null, bool, whole, is_null, all_fit}
use Rattle.meaning.proofs.CaseSplits.{false_true, and_then_some, of_none_is, of_none_some, of_one_some, of_two_some}
use Rattle.meaning.proofs.CaseSplits.{of_three_some}
use Rattle.meaning.proofs.FitsTypes.{fit_nil, fit_one, fit_two, fit_three}
use Rattle.meaning.proofs.InfallibleHasValue.{item_some, item_solid}
use Rattle.meaning.proofs.RowsAtRoots.{item_rowless}
use Rattle.meaning.proofs.ValuesFit.{all_values_fit}

-- a value, or a fault of another cause
abbrev formed : {A : Type 0} → Outcome A → Bool
formed (value a) = true
formed (fault arithmetic) = true
formed (fault unlike) = true
formed (fault (host c)) = true
formed (fault malformed) = false

-- going on from such an outcome to such outcomes gives one
then_formed : {A B : Type 0} (x : Outcome A) (f : A → Outcome B) → formed x ≡ true
    → ((a : A) → x ≡ value a → formed (f a) ≡ true) → formed (then x f) ≡ true
then_formed (value a) f p q = q a refl
then_formed (fault arithmetic) f p q = refl
then_formed (fault unlike) f p q = refl
then_formed (fault (host c)) f p q = refl
then_formed (fault malformed) f p q = p

compares_formed : (c : CompareOperator) (v w : Value) → formed (compares c v w) ≡ true
compares_formed c v w = go (is_null v || is_null w) (alike v w) (holds c v w)
  where
    go : (a b h : Bool) → formed (cond a (value null) (cond b (value (bool h)) (fault unlike))) ≡ true
    go a b h = grind arith

between_formed : (o : BetweenOptions) (x l u : Value) → formed (lies_between o x l u) ≡ true
between_formed o x l u =
    then_formed (compares (bound_operator o.lower_strict) l x) _
    (compares_formed (bound_operator o.lower_strict) l x)
    (λ a e.
    then_formed (compares (bound_operator o.upper_strict) x u) _
    (compares_formed (bound_operator o.upper_strict) x u) (λ b i. refl))

computes_formed : (o : Arithmetic) (v w : Value) → formed (computes o v w) ≡ true
unfolding compute_signed compute_unsigned
computes_formed o v w = grind arith

-- a reply that names arguments only where they are gives one
host_formed : (vs : List Value) (x : Reply) → ((i : ℕ) → x ≡ argument i → i < length vs)
    → formed (reply_value vs x) ≡ true
host_formed vs (argument i) n = go vs i (n i refl)
  where
    go : (vs : List Value) (i : ℕ) → i < length vs → formed (argument_value (nth vs i)) ≡ true
    go [] i p = absurd (omega arith)
    go (v ∷ vs) zero p = refl
    go (v ∷ vs) (suc i) p = go vs i (omega arith)
host_formed vs (plain k) n = refl
host_formed vs (fails c) n = refl

module _ (m : Meaning) (law : Lawful m) (na : NamesArguments m) (ss : Schemas) (r : Env) (ok : EnvFits ss r)
    (plainly : ColumnsPlain ss) where
  -- a node over fitting values gives one
  fn_formed : (f : Fn) (ts : List DType) (vs : List Value) (t : DType) → fn_type m ss f ts ≡ Some t
      → all_fit vs ts ≡ true → ((u : DType) (s : ℕ) → ts ≡ u ∷ [] → u.kind ≡ kind.Row s → u.nullable ≡ false)
      → formed (fn_value m r f vs) ≡ true
  unfolding fn_type fn_value
  fn_formed (root s) ts vs t p q o =
      let (e, g) = of_none_is _ ts t p in
      ap (λ (z : List Value). formed (of_none (fault malformed) (value (whole s)) z)) (fit_nil vs (rw e at q))
  fn_formed (literal s x) ts vs t p q o =
      let (e, g) = of_none_some _ ts t p in
      ap (λ (z : List Value). formed (of_none (fault malformed) (value x) z)) (fit_nil vs (rw e at q))
  fn_formed (get_item n) ts vs t p q o =
      let (u, e, g) = of_one_some (λ t. item_type ss n t.kind) ts t p in
      let (w, k, j) = fit_one vs u (rw e at q) in
      let (z, i, _) = item_rowless ss plainly n u.kind t g in
      let (y, h) = item_some r n ss u t w (o u z e i) g j in
      rw k (ap formed h)
  fn_formed (cast s) ts vs t p q o =
      let (u, e, g) = of_one_some (λ u. cast_type s u) ts t p in
      let (w, k, j) = fit_one vs u (rw e at q) in
      rw k refl
  fn_formed (compare c) ts vs t p q o =
      let (s, u, e, g) = of_two_some compare_type ts t p in
      let (x, w, k, j, l) = fit_two vs s u (rw e at q) in
      rw k (compares_formed c x w)
  fn_formed (compute a) ts vs t p q o =
      let (s, u, e, g) = of_two_some compute_type ts t p in
      let (x, w, k, j, l) = fit_two vs s u (rw e at q) in
      rw k (computes_formed a x w)
  fn_formed (between b) ts vs t p q o =
      let (s, u, i, e, g) = of_three_some between_type ts t p in
      let (x, w, y, k, j, l, n) = fit_three vs s u i (rw e at q) in
      rw k (between_formed b x w y)
  fn_formed (call c) ts vs t p q o = host_formed vs (m.gives c vs) (λ i e. na c i ts t vs p q e)

mutual
  -- an expression that binds gives one
  eval_formed : (m : Meaning) → Lawful m → NamesArguments m → (ss : Schemas) (r : Env) → EnvFits ss r
      → ColumnsPlain ss → (e : Expr) (t : DType) → typed m ss e ≡ Some t → formed (eval m r e) ≡ true
  eval_formed m law na ss r ok plainly (logic o a b) t p =
      let (ta, pa, p1) = and_then_some (typed m ss a) _ t p in
      let (tb, pb, p2) = and_then_some (typed m ss b) _ t p1 in
      then_formed (eval m r a) _ (eval_formed m law na ss r ok plainly a ta pa)
      (λ v x. then_formed (eval m r b) _ (eval_formed m law na ss r ok plainly b tb pb) (λ w y. refl))
  eval_formed m law na ss r ok plainly (node f es) t p =
      let (ts, ps, p1) = and_then_some (typed_all m ss es) _ t p in
      then_formed (evals m r es) _ (evals_formed m law na ss r ok plainly es ts ps)
      (λ vs x. fn_formed m law na ss r ok plainly f ts vs t p1 (all_values_fit m law ss r ok es ts vs ps x)
      (item_solid m law ss plainly es ts ps))

  evals_formed : (m : Meaning) → Lawful m → NamesArguments m → (ss : Schemas) (r : Env) → EnvFits ss r
      → ColumnsPlain ss → (es : Exprs) (ts : List DType) → typed_all m ss es ≡ Some ts → formed (evals m r es) ≡ true
  evals_formed m law na ss r ok plainly nil ts p = refl
  evals_formed m law na ss r ok plainly (cons e es) ts p =
      let (ta, pa, p1) = and_then_some (typed m ss e) _ ts p in
      let (tb, pb, p2) = and_then_some (typed_all m ss es) _ ts p1 in
      then_formed (eval m r e) _ (eval_formed m law na ss r ok plainly e ta pa)
      (λ v x. then_formed (evals m r es) _ (evals_formed m law na ss r ok plainly es tb pb) (λ w y. refl))

pub bound_trees_are_well_formed : BoundTreesAreWellFormed
bound_trees_are_well_formed m law na ss r ok plainly e t p h =
    false_true (sym (ap formed h) ∙ eval_formed m law na ss r ok plainly e t p)
