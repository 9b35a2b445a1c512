-- The rules of And and Or keep type and value.
use Rattle.std.proofs.Common.{◌≡◌, Bool, true, false, cond, not, ◌||◌, Some, sym, refl, ap, ◌∙◌, arith}
use Rattle.std.proofs.lemmas.Bool.{and_parts}
use Rattle.std.proofs.lemmas.Option.{same_Some, cond_some}
use Rattle.vocabulary.specs.Types.{same_kind}
use Rattle.vocabulary.specs.declared.operators.Connective.{Connective}
use Rattle.vocabulary.specs.declared.operators.Connective.TheVariants.{And, Or}
use Rattle.vocabulary.specs.declared.types.DType.{DType}
use Rattle.vocabulary.specs.declared.types.Kind.{Kind}
use Rattle.vocabulary.specs.declared.types.Kind.TheVariants as kind
use Rattle.meaning.specs.Columns.{Schemas}
use Rattle.meaning.specs.Evaluating.{Env, EnvFits, eval}
use Rattle.meaning.specs.Hosts.{Meaning}
use Rattle.meaning.specs.Kleene.{decides, deciding, kleene}
use Rattle.meaning.specs.Lawful.{Lawful}
use Rattle.meaning.specs.LawsOfRules.{Refines}
use Rattle.meaning.specs.Literals.{lit, literal_of, Seen, sees_truth, sees_null, sees_other, seen}
use Rattle.meaning.specs.Outcomes.{value}
use Rattle.meaning.specs.Rules.{nullable_of, widen, drop_truth, simplify_logic, simplify}
use Rattle.meaning.specs.Trees.{Expr, logic}
use Rattle.meaning.specs.Typing.{typed}
use Rattle.meaning.specs.Values.{Value, null, bool, boolean}
use Rattle.meaning.proofs.CaseSplits.{none_some, value_same, and_then_some, then_value}
use Rattle.meaning.proofs.FitsTypes.{one_kind, bool_value}
use Rattle.meaning.proofs.KleeneLaws.{kleene_commutes, deciding_truths}
use Rattle.meaning.proofs.LiteralOperands.{seen_truth, seen_null, lit_bool, lit_eval, literal_eval, widen_same}
use Rattle.meaning.proofs.ValuesFit.{values_fit}

or_first : (a b : Bool) → ((a || b) || not a) ≡ true
or_first a b = grind arith

or_second : (a b : Bool) → ((a || b) || not b) ≡ true
or_second a b = grind arith

-- a type of kind Bool is Bool, nullable or not
bool_type : (t : DType) → same_kind kind.Bool t.kind ≡ true → t ≡ boolean t.nullable
bool_type t p = ap (λ (k : Kind). record { kind = k; nullable = t.nullable }) (sym (one_kind kind.Bool t.kind p))

two_nulls : (o : Connective) → kleene o null null ≡ null
two_nulls And = refl
two_nulls Or = refl

module _ (m : Meaning) (law : Lawful m) (ss : Schemas) (r : Env) (ok : EnvFits ss r) where
  drop_by : (o : Connective) (x n k : Bool) (e : Expr) (c : Bool) → decides o x ≡ c → typed m ss e ≡ Some (boolean k)
      → (n || not k) ≡ true
      → (typed m ss (cond c (lit (boolean n) (bool (deciding o))) (widen n k e)) ≡ Some (boolean n))
      × ((w : Value) → eval m r e ≡ value w
      → eval m r (cond c (lit (boolean n) (bool (deciding o))) (widen n k e)) ≡ value (kleene o (bool x) w))
  drop_by o x n k e true d p q = (
    lit_bool m ss n (bool (deciding o)) refl,
    λ w i. lit_eval m r (boolean n) (bool (deciding o)) ∙ ap value (sym ((deciding_truths o x w).0 d)),
  )
  drop_by o x n k e false d p q =
      let (a, b) = widen_same m ss r n k e p q in (
        a,
        λ w i.
            b
            ∙ i
            ∙ ap value
            (sym (bool_value w (boolean k) refl (values_fit m law ss r ok e (boolean k) w p i))
            ∙ sym ((deciding_truths o x w).1 d)),
      )

  -- And or Or with a known truth, of which one operand is left
  drop_refines : (o : Connective) (x n k : Bool) (e : Expr) → typed m ss e ≡ Some (boolean k) → (n || not k) ≡ true
      → (typed m ss (drop_truth o x n k e) ≡ Some (boolean n))
      × ((w : Value) → eval m r e ≡ value w → eval m r (drop_truth o x n k e) ≡ value (kleene o (bool x) w))
  drop_refines o x n k e p q = drop_by o x n k e (decides o x) refl p q

  -- d stands for And or Or of a and b
  abbrev Kept : Connective → Bool → Expr → Expr → Expr → Type 0
  Kept o n a b d =
      (typed m ss d ≡ Some (boolean n))
      × ((v w : Value) → eval m r a ≡ value v → eval m r b ≡ value w → eval m r d ≡ value (kleene o v w))

  -- the left operand is a literal truth
  left_truth : (o : Connective) (a b d : Expr) (ka kb x : Bool) → typed m ss b ≡ Some (boolean kb)
      → seen a ≡ sees_truth x → drop_truth o x (ka || kb) kb b ≡ d → Kept o (ka || kb) a b d
  left_truth o a b d ka kb x pb sa i =
      let (p, q) = drop_refines o x (ka || kb) kb b pb (or_second ka kb) in
      let j = literal_eval m r a (bool x) (seen_truth (literal_of a) x sa) in
      rw (← i) (p, λ v w ea eb. q w eb ∙ ap (λ (z : Value). value (kleene o z w)) (value_same (sym j ∙ ea)))

  -- the right operand is one
  right_truth : (o : Connective) (a b d : Expr) (ka kb y : Bool) → typed m ss a ≡ Some (boolean ka)
      → seen b ≡ sees_truth y → drop_truth o y (ka || kb) ka a ≡ d → Kept o (ka || kb) a b d
  right_truth o a b d ka kb y pa sb i =
      let (p, q) = drop_refines o y (ka || kb) ka a pa (or_first ka kb) in
      let j = literal_eval m r b (bool y) (seen_truth (literal_of b) y sb) in
      rw (← i)
      (p, λ v w ea eb. q v ea ∙ ap value (kleene_commutes o (bool y) v ∙ ap (kleene o v) (value_same (sym j ∙ eb))))

  -- both are null
  both_null : (o : Connective) (a b d : Expr) (ka kb : Bool) → typed m ss a ≡ Some (boolean ka) → seen a ≡ sees_null
      → seen b ≡ sees_null → widen (ka || kb) ka a ≡ d → Kept o (ka || kb) a b d
  both_null o a b d ka kb pa sa sb i =
      let (p, q) = widen_same m ss r (ka || kb) ka a pa (or_first ka kb) in
      let j = literal_eval m r a null (seen_null (literal_of a) sa) in
      let k = literal_eval m r b null (seen_null (literal_of b) sb) in
      rw (← i) (
        p,
        λ v w ea eb.
            q
            ∙ j
            ∙ ap value
            (sym (two_nulls o)
            ∙ ap (λ (z : Value). kleene o z null) (value_same (sym j ∙ ea))
            ∙ ap (kleene o v) (value_same (sym k ∙ eb))),
      )

  simplify_kept : (o : Connective) (a b d : Expr) (ka kb : Bool) (s t : Seen) → typed m ss a ≡ Some (boolean ka)
      → typed m ss b ≡ Some (boolean kb) → seen a ≡ s → seen b ≡ t
      → simplify_logic o (ka || kb) ka kb a b s t ≡ Some d → Kept o (ka || kb) a b d
  simplify_kept o a b d ka kb (sees_truth x) t pa pb sa sb h = left_truth o a b d ka kb x pb sa (same_Some _ _ h)
  simplify_kept o a b d ka kb sees_null (sees_truth y) pa pb sa sb h =
      right_truth o a b d ka kb y pa sb (same_Some _ _ h)
  simplify_kept o a b d ka kb sees_null sees_null pa pb sa sb h = both_null o a b d ka kb pa sa sb (same_Some _ _ h)
  simplify_kept o a b d ka kb sees_null sees_other pa pb sa sb h = none_some d h
  simplify_kept o a b d ka kb sees_other (sees_truth y) pa pb sa sb h =
      right_truth o a b d ka kb y pa sb (same_Some _ _ h)
  simplify_kept o a b d ka kb sees_other sees_null pa pb sa sb h = none_some d h
  simplify_kept o a b d ka kb sees_other sees_other pa pb sa sb h = none_some d h

  -- what simplify answers at And and Or
  pub logic_refines : (o : Connective) (a b d : Expr) (t : DType) → typed m ss (logic o a b) ≡ Some t
      → simplify m ss (logic o a b) ≡ Some d → Refines m ss r t (logic o a b) d
  unfolding simplify
  logic_refines o a b d t p h =
      let (ta, pa, p1) = and_then_some (typed m ss a) _ t p in
      let (tb, pb, p2) = and_then_some (typed m ss b) _ t p1 in
      let (c, e) = cond_some _ _ _ p2 in
      let (ca, cb) = and_parts _ _ c in
      let qa : typed m ss a ≡ Some (boolean ta.nullable) = pa ∙ ap Some (bool_type ta ca) in
      let qb : typed m ss b ≡ Some (boolean tb.nullable) = pb ∙ ap Some (bool_type tb cb) in
      let g : simplify_logic o (ta.nullable || tb.nullable) ta.nullable tb.nullable a b (seen a) (seen b)
      ≡ Some d =
      rw (← (ap nullable_of pa), ← (ap nullable_of pb)) h in
      let (x, y) = simplify_kept o a b d ta.nullable tb.nullable (seen a) (seen b) qa qb refl refl g in (
        x ∙ ap Some e,
        λ v q.
            let (va, ea, q1) = then_value (eval m r a) _ v q in
            let (vb, eb, q2) = then_value (eval m r b) _ v q1 in
            y va vb ea eb ∙ q2,
      )
