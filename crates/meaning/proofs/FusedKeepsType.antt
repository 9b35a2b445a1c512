-- Fusing keeps the type.
use Rattle.std.proofs.Common.{◌≡◌, Bool, true, false, cond, ◌&&◌, ◌||◌, List, [], ◌∷◌, Some, None, Option, sym, refl}
use Rattle.std.proofs.Common.{ap, ◌∙◌, inl, inr, arith}
use Rattle.std.proofs.lemmas.Bool.{and_parts}
use Rattle.std.proofs.Math.Bool.{or_assoc}
use Rattle.std.proofs.lemmas.Option.{cond_some}
use Rattle.vocabulary.specs.Types.{same_kind, plain_kind}
use Rattle.vocabulary.specs.declared.operators.CompareOperator.{CompareOperator}
use Rattle.vocabulary.specs.declared.operators.Connective.TheVariants.{And, Or}
use Rattle.vocabulary.specs.declared.types.DType.{DType}
use Rattle.vocabulary.specs.declared.types.Kind.TheVariants as kind
use Rattle.meaning.specs.Columns.{Schemas}
use Rattle.meaning.specs.Conjuncts.{count_conjuncts}
use Rattle.meaning.specs.Fusing.{between_tree, fuse, find_between, find_between_all}
use Rattle.meaning.specs.Hosts.{Meaning}
use Rattle.meaning.specs.Outcomes.{and_then}
use Rattle.meaning.specs.Ranges.{Column, Range, column_tree, bound_tree, range}
use Rattle.meaning.specs.Trees.{Expr, logic, node, Exprs, nil, cons}
use Rattle.meaning.specs.Typing.{is_extension, logic_type, compare_type, between_type, fn_type, typed, typed_all}
use Rattle.meaning.specs.Values.{boolean}
use Rattle.meaning.proofs.CaseSplits.{none_some, and_then_none}
use Rattle.meaning.proofs.FitsTypes.{kinds_commute}
use Rattle.meaning.proofs.MergeSums.{merging_adds}
use Rattle.meaning.proofs.RangeForms.{pair, range_inv, Sides, fuse_inv}

-- a type before those of others
abbrev typed_before : Option DType → Option (List DType) → Option (List DType)
typed_before x ts = and_then x (λ t. and_then ts (λ us. Some (t ∷ us)))

two_types : (x y : Option DType) (f : List DType → Option DType)
    → and_then (typed_before x (typed_before y (Some []))) f
    ≡ and_then x (λ (t : DType). and_then y (λ (u : DType). f (t ∷ u ∷ [])))
two_types None y f = refl
two_types (Some t) None f = refl
two_types (Some t) (Some u) f = refl

three_types : (x y z : Option DType) (f : List DType → Option DType)
    → and_then (typed_before x (typed_before y (typed_before z (Some [])))) f
    ≡ and_then x (λ (t : DType). and_then y (λ (u : DType). and_then z (λ (v : DType). f (t ∷ u ∷ v ∷ []))))
three_types None y z f = refl
three_types (Some t) None z f = refl
three_types (Some t) (Some u) None f = refl
three_types (Some t) (Some u) (Some v) f = refl

-- the type of And of operands of those types
abbrev and_types : Option DType → Option DType → Option DType
and_types x y = and_then x (λ (t : DType). and_then y (λ (u : DType). logic_type t u))

-- the type of a comparison
abbrev compared_types : Option DType → Option DType → Option DType
compared_types x y = and_then x (λ (t : DType). and_then y (λ (u : DType). compare_type t u))

-- the type of a Between
abbrev between_types : Option DType → Option DType → Option DType → Option DType
between_types x l u =
    and_then x (λ (t : DType). and_then l (λ (a : DType). and_then u (λ (b : DType). between_type t a b)))

-- Bool, nullable or not, where the operands pass
abbrev gate : Bool → Bool → Option DType
gate c n = cond c (Some (boolean n)) None

gate_commutes : (a b l d e n i : Bool)
    → gate ((a && b) && (l || (d || e))) (n || i) ≡ gate ((b && a) && (l || (e || d))) (i || n)
gate_commutes a b l d e n i = grind arith

-- a comparison has one type, whichever operand comes first
compare_type_commutes : (t u : DType) → compare_type t u ≡ compare_type u t
compare_type_commutes t u =
    gate_commutes (plain_kind t.kind) (plain_kind u.kind) (same_kind t.kind u.kind) (is_extension t.kind)
    (is_extension u.kind) t.nullable u.nullable
    ∙ ap
    (λ (z : Bool).
    gate ((plain_kind u.kind && plain_kind t.kind) && (z || (is_extension u.kind || is_extension t.kind)))
    (u.nullable || t.nullable)) (kinds_commute t.kind u.kind)

compared_types_commute : (x y : Option DType) → compared_types x y ≡ compared_types y x
compared_types_commute None None = refl
compared_types_commute None (Some u) = refl
compared_types_commute (Some t) None = refl
compared_types_commute (Some t) (Some u) = compare_type_commutes t u

logic_gate_commutes : (a b n i : Bool) → gate (a && b) (n || i) ≡ gate (b && a) (i || n)
logic_gate_commutes a b n i = grind arith

and_types_commute : (x y : Option DType) → and_types x y ≡ and_types y x
and_types_commute None None = refl
and_types_commute None (Some u) = refl
and_types_commute (Some t) None = refl
and_types_commute (Some t) (Some u) =
    logic_gate_commutes (same_kind kind.Bool t.kind) (same_kind kind.Bool u.kind) t.nullable u.nullable

gates : (i j k a b c : Bool)
    → and_then (gate (i && j) (a || b)) (λ (s : DType). gate (same_kind kind.Bool s.kind && k) (s.nullable || c))
    ≡ and_then (gate (j && k) (b || c)) (λ (s : DType). gate (i && same_kind kind.Bool s.kind) (a || s.nullable))
gates true true true a b c = ap (λ (z : Bool). Some (boolean z)) (or_assoc a b c)
gates true true false a b c = refl
gates true false k a b c = refl
gates false true true a b c = refl
gates false true false a b c = refl
gates false false k a b c = refl

and_types_associate : (x y z : Option DType) → and_types (and_types x y) z ≡ and_types x (and_types y z)
and_types_associate None y z = refl
and_types_associate (Some t) None z = refl
and_types_associate (Some t) (Some u) None = and_then_none (logic_type t u)
and_types_associate (Some t) (Some u) (Some v) =
    gates (same_kind kind.Bool t.kind) (same_kind kind.Bool u.kind) (same_kind kind.Bool v.kind) t.nullable
    u.nullable v.nullable

ok_true : (a b l d n : Bool) → a ≡ true → b ≡ true → l ≡ true → gate ((a && b) && (l || d)) n ≡ Some (boolean n)
ok_true a b l d n p q r = grind arith

compare_type_ok : (t u : DType) → plain_kind t.kind ≡ true → plain_kind u.kind ≡ true
    → same_kind t.kind u.kind ≡ true → compare_type t u ≡ Some (boolean (t.nullable || u.nullable))
compare_type_ok t u p q r =
    ok_true (plain_kind t.kind) (plain_kind u.kind) (same_kind t.kind u.kind)
    (is_extension t.kind || is_extension u.kind) (t.nullable || u.nullable) p q r

or_shares : (a b c : Bool) → ((a || b) || (a || c)) ≡ (a || (b || c))
or_shares a b c = grind arith

between_two : (t l u s : DType) → between_type t l u ≡ Some s → and_types (compare_type t l) (compare_type t u) ≡ Some s
between_two t l u s h =
    let (c, e) = cond_some _ _ _ h in
    let (c1, c2) = and_parts _ _ c in
    let (rt, rl) = and_parts _ _ c1 in
    let (ru, c3) = and_parts _ _ c2 in
    let (tl, tu) = and_parts _ _ c3 in
    ap (λ (z : Option DType). and_types z (compare_type t u)) (compare_type_ok t l rt rl tl)
    ∙ ap (and_types (Some (boolean (t.nullable || l.nullable)))) (compare_type_ok t u rt ru tu)
    ∙ ap (λ (z : Bool). Some (boolean z)) (or_shares t.nullable l.nullable u.nullable)
    ∙ ap Some e

-- a Between that binds has the type of the And of its comparisons
between_and : (x l u : Option DType) (s : DType) → between_types x l u ≡ Some s
    → and_types (compared_types x l) (compared_types x u) ≡ Some s
between_and None l u s h = none_some s h
between_and (Some t) None u s h = none_some s h
between_and (Some t) (Some a) None s h = none_some s h
between_and (Some t) (Some a) (Some b) s h = between_two t a b s h

module _ (m : Meaning) (ss : Schemas) where
  pair_typed : (c : CompareOperator) (a b : Expr)
      → typed m ss (pair c a b) ≡ compared_types (typed m ss a) (typed m ss b)
  unfolding fn_type
  pair_typed c a b = two_types (typed m ss a) (typed m ss b) _

  -- the type of a range comparison, whichever its form
  range_typed : (e : Expr) (p : Range) → range e ≡ Some p
      → typed m ss e ≡ compared_types (typed m ss (column_tree p.col)) (typed m ss (bound_tree p.bound))
  range_typed e p h = let (c, w) = range_inv e p h in elim w [
    | inl q ↦ ap (typed m ss) q.0 ∙ pair_typed c (column_tree p.col) (bound_tree p.bound)
    | inr q ↦
        ap (typed m ss) q.0
        ∙ pair_typed c (bound_tree p.bound) (column_tree p.col)
        ∙ compared_types_commute (typed m ss (bound_tree p.bound)) (typed m ss (column_tree p.col))
  ]

  between_typed : (p q : Range)
      → typed m ss (between_tree p q)
      ≡ between_types (typed m ss (column_tree p.col)) (typed m ss (bound_tree p.bound))
      (typed m ss (bound_tree q.bound))
  unfolding fn_type
  between_typed p q =
      three_types (typed m ss (column_tree p.col)) (typed m ss (bound_tree p.bound))
      (typed m ss (bound_tree q.bound)) _

  sides_typed : (p q : Range) (c d b : Expr) → range c ≡ Some p → range d ≡ Some q → p.col ≡ q.col
      → Sides m ss p q b → typed m ss b ≡ and_types (typed m ss c) (typed m ss d)
  sides_typed p q c d b hp hq e z =
      let (s, k) = z.3 in
      let x : Option DType = typed m ss (column_tree p.col) in
      let l : Option DType = typed m ss (bound_tree p.bound) in
      let u : Option DType = typed m ss (bound_tree q.bound) in
      let i = range_typed c p hp in
      let j : typed m ss d ≡ compared_types x u =
      range_typed d q hq ∙ ap (λ (y : Column). compared_types (typed m ss (column_tree y)) u) (sym e) in
      ap (typed m ss) (sym z.2)
      ∙ k
      ∙ sym (between_and x l u s (sym (between_typed p q) ∙ k))
      ∙ ap (λ (y : Option DType). and_types y (compared_types x u)) (sym i)
      ∙ ap (and_types (typed m ss c)) (sym j)

  -- the Between of a pair has the type of the And of the pair
  fuse_typed : (d c b : Expr) → fuse m ss d c ≡ Some b → typed m ss b ≡ and_types (typed m ss c) (typed m ss d)
  fuse_typed d c b h =
      let (p, q, hp, hq, e, w) = fuse_inv m ss d c b h in
      elim w [
        | inl z ↦ sides_typed p q c d b hp hq e z
        | inr z ↦ sides_typed q p d c b hq hp (sym e) z ∙ and_types_commute (typed m ss d) (typed m ss c)
      ]

mutual
  -- fusing a whole tree keeps its type
  pub find_typed : (m : Meaning) (ss : Schemas) (e : Expr) → typed m ss (find_between m ss e) ≡ typed m ss e
  find_typed m ss (logic And a b) =
      merging_adds m ss (Option DType) and_types and_types_commute and_types_associate (typed m ss) (λ a b. refl)
      (fuse_typed m ss) (count_conjuncts (find_between m ss b)) (find_between m ss a) (find_between m ss b)
      ∙ ap (λ (z : Option DType). and_types z (typed m ss (find_between m ss b))) (find_typed m ss a)
      ∙ ap (and_types (typed m ss a)) (find_typed m ss b)
  find_typed m ss (logic Or a b) = simp (find_typed m ss a, find_typed m ss b)
  find_typed m ss (node f es) = simp (finds_typed m ss es)

  finds_typed : (m : Meaning) (ss : Schemas) (es : Exprs)
      → typed_all m ss (find_between_all m ss es) ≡ typed_all m ss es
  finds_typed m ss nil = refl
  finds_typed m ss (cons e es) = simp (find_typed m ss e, finds_typed m ss es)
