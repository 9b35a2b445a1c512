-- Between is the And of its two comparisons.
use Rattle.std.proofs.Common.{◌≡◌, None, Option, sym, refl, ap, ◌∙◌}
use Rattle.vocabulary.specs.Operators.{strict_as}
use Rattle.vocabulary.specs.declared.operators.BetweenOptions.{BetweenOptions}
use Rattle.vocabulary.specs.declared.operators.CompareOperator.{CompareOperator}
use Rattle.vocabulary.specs.declared.operators.CompareOperator.TheVariants.{Lt, Lte}
use Rattle.vocabulary.specs.declared.operators.Connective.TheVariants.{And}
use Rattle.vocabulary.specs.declared.operators.StrictComparison.{StrictComparison}
use Rattle.vocabulary.specs.declared.operators.StrictComparison.TheVariants.{Strict, NonStrict}
use Rattle.meaning.specs.Comparing.{compares, bound_operator, lies_between}
use Rattle.meaning.specs.Evaluating.{Env, fn_value, eval}
use Rattle.meaning.specs.Hosts.{Meaning}
use Rattle.meaning.specs.Kleene.{kleene}
use Rattle.meaning.specs.Outcomes.{Fault, Outcome, value, fault, then, settled}
use Rattle.meaning.specs.Standard.{BetweenIsTwoComparisons}
use Rattle.meaning.specs.Trees.{compare, Expr, node, nil, cons, binary, between_node}
use Rattle.meaning.specs.Values.{Value}
use Rattle.meaning.proofs.CaseSplits.{two_values, three_values}

-- the comparison of what two operands come to
abbrev compared : CompareOperator → Outcome Value → Outcome Value → Outcome Value
compared k x y = then x (λ v. then y (λ w. compares k v w))

-- the And of what two operands come to
abbrev both : Outcome Value → Outcome Value → Outcome Value
both p q = then p (λ v. then q (λ w. value (kleene And v w)))

-- Between of what three operands come to
abbrev lying : BetweenOptions → Outcome Value → Outcome Value → Outcome Value → Outcome Value
lying o x a b = then x (λ v. then a (λ w. then b (λ u. lies_between o v w u)))

-- an And with a faulty side has no value
faulty_side : (x : Outcome Value) (e : Fault) → ◌≡◌ {A = Option Value} None (settled (both x (fault e)))
faulty_side (value v) e = refl
faulty_side (fault d) e = refl

-- Between has the value of the two comparisons, if there is one
lying_both : (o : BetweenOptions) (x a b : Outcome Value)
    → settled (lying o x a b)
    ≡ settled
    (both (compared (bound_operator o.lower_strict) a x) (compared (bound_operator o.upper_strict) x b))
lying_both o (value v) (value w) (value u) = refl
lying_both o (value v) (value w) (fault e) = faulty_side (compares (bound_operator o.lower_strict) w v) e
lying_both o (value v) (fault e) b = refl
lying_both o (fault e) (value w) b = refl
lying_both o (fault e) (fault d) b = refl

module _ (m : Meaning) (r : Env) where
  between_eval : (o : BetweenOptions) (x a b : Expr)
      → eval m r (between_node o x a b) ≡ lying o (eval m r x) (eval m r a) (eval m r b)
  unfolding fn_value
  between_eval o x a b = three_values (eval m r x) (eval m r a) (eval m r b) _

  compare_eval : (k : CompareOperator) (a b : Expr)
      → eval m r (node (compare k) (cons a (cons b nil))) ≡ compared k (eval m r a) (eval m r b)
  unfolding fn_value
  compare_eval k a b = two_values (eval m r a) (eval m r b) _

  -- the comparison with a bound
  strict_eval : (s : StrictComparison) (a b : Expr)
      → eval m r (binary (strict_as s) a b) ≡ compared (bound_operator s) (eval m r a) (eval m r b)
  strict_eval Strict a b = compare_eval Lt a b
  strict_eval NonStrict a b = compare_eval Lte a b

pub between_is_two_comparisons : BetweenIsTwoComparisons
between_is_two_comparisons m r o x a b =
    let lower = strict_eval m r o.lower_strict a x in
    let upper = strict_eval m r o.upper_strict x b in
    ap settled (between_eval m r o x a b)
    ∙ lying_both o (eval m r x) (eval m r a) (eval m r b)
    ∙ ap
    (λ (z : Outcome Value).
    settled (both z (compared (bound_operator o.upper_strict) (eval m r x) (eval m r b)))) (sym lower)
    ∙ ap (λ (z : Outcome Value). settled (both (eval m r (binary (strict_as o.lower_strict) a x)) z)) (sym upper)
