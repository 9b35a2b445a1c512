-- Fusing keeps the value wherever there is one.
use Rattle.std.proofs.Common.{◌≡◌, cond, Some, None, Option, sym, refl, ap, ◌∙◌, subst, inl, inr}
use Rattle.std.proofs.lemmas.Bool.{cond-true, cond-false}
use Rattle.std.proofs.lemmas.Option.{same_Some}
use Rattle.vocabulary.specs.declared.operators.CompareOperator.{CompareOperator}
use Rattle.vocabulary.specs.declared.operators.CompareOperator.TheVariants.{Eq, NotEq, Gt, Gte, Lt, Lte}
use Rattle.vocabulary.specs.declared.operators.Connective.TheVariants.{And, Or}
use Rattle.meaning.specs.Columns.{Schemas}
use Rattle.meaning.specs.Comparing.{compares, swap, bound_operator, lies_between}
use Rattle.meaning.specs.Conjuncts.{count_conjuncts}
use Rattle.meaning.specs.Evaluating.{Env, fn_value, eval, evals}
use Rattle.meaning.specs.Fusing.{between_tree, fuse, find_between, find_between_all}
use Rattle.meaning.specs.Hosts.{Meaning}
use Rattle.meaning.specs.Kleene.{kleene}
use Rattle.meaning.specs.LawsOfFusing.{FusingKeeps}
use Rattle.meaning.specs.Outcomes.{Outcome, settled, and_then}
use Rattle.meaning.specs.Ranges.{Column, Bound, Range, column_tree, bound_tree, ranged, range}
use Rattle.meaning.specs.Trees.{Expr, logic, node, Exprs, nil, cons}
use Rattle.meaning.specs.Values.{Value}
use Rattle.meaning.proofs.CaseSplits.{none_some, settled_then, settled_cons, settled_logic}
use Rattle.meaning.proofs.Comparisons.{swapping_exchanges_operands}
use Rattle.meaning.proofs.FusedKeepsType.{find_typed}
use Rattle.meaning.proofs.KleeneLaws.{kleene_commutes, kleene_associates}
use Rattle.meaning.proofs.MergeSums.{merging_adds}
use Rattle.meaning.proofs.RangeForms.{pair, range_inv, Sides, fuse_inv}

-- what a range comparison says of the column's value and the bound
abbrev test : Range → Value → Value → Outcome Value
test p x l = cond p.lower (compares (bound_operator p.strict) l x) (compares (bound_operator p.strict) x l)

-- a comparison by an order operator is the test of its range
range_test : (c : CompareOperator) (y : Column) (b : Bound) (p : Range) (x l : Value) → ranged c y b ≡ Some p
    → compares c x l ≡ test p x l
range_test Eq y b p x l h = none_some p h
range_test NotEq y b p x l h = none_some p h
range_test Gt y b p x l h =
    subst (λ (z : Range). compares Gt x l ≡ test z x l) (same_Some _ _ h) (sym (swapping_exchanges_operands Gt x l))
range_test Gte y b p x l h =
    subst (λ (z : Range). compares Gte x l ≡ test z x l) (same_Some _ _ h) (sym (swapping_exchanges_operands Gte x l))
range_test Lt y b p x l h = subst (λ (z : Range). compares Lt x l ≡ test z x l) (same_Some _ _ h) refl
range_test Lte y b p x l h = subst (λ (z : Range). compares Lte x l ≡ test z x l) (same_Some _ _ h) refl

-- the And of what two expressions come to
abbrev and_values : Option Value → Option Value → Option Value
and_values x y = and_then x (λ (v : Value). and_then y (λ (w : Value). Some (kleene And v w)))

and_values_commute : (x y : Option Value) → and_values x y ≡ and_values y x
and_values_commute None None = refl
and_values_commute None (Some w) = refl
and_values_commute (Some v) None = refl
and_values_commute (Some v) (Some w) = ap Some (kleene_commutes And v w)

and_values_associate : (x y z : Option Value) → and_values (and_values x y) z ≡ and_values x (and_values y z)
and_values_associate None y z = refl
and_values_associate (Some u) None z = refl
and_values_associate (Some u) (Some v) None = refl
and_values_associate (Some u) (Some v) (Some w) = ap Some (kleene_associates And u v w)

module _ (m : Meaning) (ss : Schemas) (r : Env) where
  -- the value of a column
  abbrev at : Column → Value
  at x = r x.schema x.name

  -- the value of an expression, if it has one
  abbrev worth : Expr → Option Value
  worth e = settled (eval m r e)

  column_bound_eval : (c : CompareOperator) (x : Column) (l : Bound)
      → eval m r (pair c (column_tree x) (bound_tree l)) ≡ compares c (at x) l.value
  unfolding fn_value
  column_bound_eval c x l = refl

  bound_column_eval : (c : CompareOperator) (x : Column) (l : Bound)
      → eval m r (pair c (bound_tree l) (column_tree x)) ≡ compares c l.value (at x)
  unfolding fn_value
  bound_column_eval c x l = refl

  between_eval : (p q : Range)
      → eval m r (between_tree p q)
      ≡ lies_between (record { lower_strict = p.strict; upper_strict = q.strict }) (at p.col)
      p.bound.value q.bound.value
  unfolding fn_value
  between_eval p q = refl

  -- a range comparison comes to its test, whichever its form
  range_eval : (e : Expr) (p : Range) → range e ≡ Some p → eval m r e ≡ test p (at p.col) p.bound.value
  range_eval e p h = let (c, w) = range_inv e p h in elim w [
    | inl q ↦
        ap (eval m r) q.0
        ∙ column_bound_eval c p.col p.bound
        ∙ range_test c p.col p.bound p (at p.col) p.bound.value q.1
    | inr q ↦
        ap (eval m r) q.0
        ∙ bound_column_eval c p.col p.bound
        ∙ sym (swapping_exchanges_operands c p.bound.value (at p.col))
        ∙ range_test (swap c) p.col p.bound p (at p.col) p.bound.value q.1
  ]

  sides_worth : (p q : Range) (c d b : Expr) → range c ≡ Some p → range d ≡ Some q → p.col ≡ q.col
      → Sides m ss p q b → worth b ≡ and_values (worth c) (worth d)
  sides_worth p q c d b hp hq e z =
      let x : Outcome Value = compares (bound_operator p.strict) p.bound.value (at p.col) in
      let y : Outcome Value = compares (bound_operator q.strict) (at p.col) q.bound.value in
      let i : eval m r c ≡ x =
      range_eval c p hp
      ∙ cond-true p.lower x (compares (bound_operator p.strict) (at p.col) p.bound.value) z.0 in
      let j : eval m r d ≡ y =
      range_eval d q hq
      ∙ cond-false q.lower (compares (bound_operator q.strict) q.bound.value (at q.col))
      (compares (bound_operator q.strict) (at q.col) q.bound.value) z.1
      ∙ ap (λ (k : Column). compares (bound_operator q.strict) (at k) q.bound.value) (sym e) in
      ap worth (sym z.2)
      ∙ ap settled (between_eval p q)
      ∙ settled_logic And x y
      ∙ ap (λ (k : Outcome Value). and_values (settled k) (settled y)) (sym i)
      ∙ ap (λ (k : Outcome Value). and_values (worth c) (settled k)) (sym j)

  -- the Between of a pair has the value of the And of the pair
  fuse_worth : (d c b : Expr) → fuse m ss d c ≡ Some b → worth b ≡ and_values (worth c) (worth d)
  fuse_worth d c b h =
      let (p, q, hp, hq, e, w) = fuse_inv m ss d c b h in
      elim w [
        | inl z ↦ sides_worth p q c d b hp hq e z
        | inr z ↦ sides_worth q p d c b hq hp (sym e) z ∙ and_values_commute (worth d) (worth c)
      ]

mutual
  -- fusing a whole tree keeps its value
  find_worth : (m : Meaning) (ss : Schemas) (r : Env) (e : Expr)
      → settled (eval m r (find_between m ss e)) ≡ settled (eval m r e)
  find_worth m ss r (logic And a b) =
      merging_adds m ss (Option Value) and_values and_values_commute and_values_associate (λ e. settled (eval m r e))
      (λ a b. settled_logic And (eval m r a) (eval m r b)) (fuse_worth m ss r) (count_conjuncts (find_between m ss b))
      (find_between m ss a) (find_between m ss b)
      ∙ ap (λ (z : Option Value). and_values z (settled (eval m r (find_between m ss b)))) (find_worth m ss r a)
      ∙ ap (and_values (settled (eval m r a))) (find_worth m ss r b)
      ∙ sym (settled_logic And (eval m r a) (eval m r b))
  find_worth m ss r (logic Or a b) =
      settled_logic Or (eval m r (find_between m ss a)) (eval m r (find_between m ss b))
      ∙ simp (find_worth m ss r a, find_worth m ss r b) (sym (settled_logic Or (eval m r a) (eval m r b)))
  find_worth m ss r (node f es) =
      settled_then (evals m r (find_between_all m ss es)) (fn_value m r f)
      ∙ simp (finds_worth m ss r es) (sym (settled_then (evals m r es) (fn_value m r f)))

  finds_worth : (m : Meaning) (ss : Schemas) (r : Env) (es : Exprs)
      → settled (evals m r (find_between_all m ss es)) ≡ settled (evals m r es)
  finds_worth m ss r nil = refl
  finds_worth m ss r (cons e es) =
      settled_cons (eval m r (find_between m ss e)) (evals m r (find_between_all m ss es))
      ∙ simp (find_worth m ss r e, finds_worth m ss r es) (sym (settled_cons (eval m r e) (evals m r es)))

pub fusing_keeps : FusingKeeps
fusing_keeps m ss r e = (find_typed m ss e, find_worth m ss r e)
