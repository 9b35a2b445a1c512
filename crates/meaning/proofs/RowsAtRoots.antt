-- A whole row is the value of a Root alone.
use Rattle.std.proofs.Common.{◌≡◌, ℕ, true, false, List, [], ◌∷◌, Some, refl, ap, ◌∙◌, subst, arith}
use Rattle.std.proofs.lemmas.Bool.{and_parts}
use Rattle.std.proofs.lemmas.Option.{same_Some, cond_some}
use Rattle.vocabulary.specs.Types.{plain_kind}
use Rattle.vocabulary.specs.declared.types.DType.{DType}
use Rattle.vocabulary.specs.declared.types.Kind.{Kind}
use Rattle.vocabulary.specs.declared.types.Kind.TheVariants as kind
use Rattle.meaning.specs.Columns.{Schemas, ColumnsPlain}
use Rattle.meaning.specs.Hosts.{Meaning}
use Rattle.meaning.specs.Lawful.{Lawful}
use Rattle.meaning.specs.LawsOfEvaluating.{RowsAreRoots, ItemsAreOfRoots}
use Rattle.meaning.specs.Trees.{Fn, root, literal, get_item, cast, compare, compute, between, call, Expr, logic, node}
use Rattle.meaning.specs.Trees.{Exprs, nil, cons}
use Rattle.meaning.specs.Typing.{is_number, item_type, compare_type, compute_type, between_type, cast_type, fn_type}
use Rattle.meaning.specs.Typing.{typed, typed_all}
use Rattle.meaning.proofs.CaseSplits.{none_some, false_true, and_then_some, of_none_is}
use Rattle.meaning.proofs.CaseSplits.{of_none_some, of_one_some, of_two_some, of_three_some}

-- a plain kind is no Row
not_row : (k : Kind) (s : ℕ) → plain_kind k ≡ true → k ≡ kind.Row s → ⊥
not_row k s p e = false_true (rw e at p)

number_rowless : (k : Kind) → is_number k ≡ true → plain_kind k ≡ true
number_rowless k p = grind arith

-- a GetItem reads a Row, and its column is plain
pub item_rowless : (ss : Schemas) → ColumnsPlain ss → (n : List ℕ) (k : Kind) (t : DType) → item_type ss n k ≡ Some t
    → (s : ℕ) × (k ≡ kind.Row s) × (plain_kind t.kind ≡ true)
item_rowless ss plainly n kind.Bool t h = none_some t h
item_rowless ss plainly n kind.I64 t h = none_some t h
item_rowless ss plainly n kind.U64 t h = none_some t h
item_rowless ss plainly n kind.Utf8 t h = none_some t h
item_rowless ss plainly n (kind.Extension e) t h = none_some t h
item_rowless ss plainly n (kind.Row s) t h = (s, refl, plainly s n t h)

typed_nil : (m : Meaning) (ss : Schemas) (es : Exprs) → typed_all m ss es ≡ Some [] → es ≡ nil
typed_nil m ss nil p = refl
typed_nil m ss (cons e es) p =
    let (t, a, p1) = and_then_some (typed m ss e) _ [] p in
    let (ts, b, p2) = and_then_some (typed_all m ss es) _ [] p1 in
    let i = same_Some _ _ p2 in
    absurd (grind arith)

-- children of some types are a first child and others
pub typed_cons : (m : Meaning) (ss : Schemas) (es : Exprs) (t : DType) (ts : List DType)
    → typed_all m ss es ≡ Some (t ∷ ts)
    → (e : Expr) × (ds : Exprs) × (es ≡ cons e ds) × (typed m ss e ≡ Some t) × (typed_all m ss ds ≡ Some ts)
typed_cons m ss nil t ts p = absurd (grind arith)
typed_cons m ss (cons e es) t ts p =
    let (u, a, p1) = and_then_some (typed m ss e) _ (t ∷ ts) p in
    let (us, b, p2) = and_then_some (typed_all m ss es) _ (t ∷ ts) p1 in
    let i = same_Some _ _ p2 in
    (e, es, refl, a ∙ ap Some (cons_head i), b ∙ ap Some (cons_tail i))
  where
    cons_head : {u t : DType} {us ts : List DType} → u ∷ us ≡ t ∷ ts → u ≡ t
    cons_head i = cc

    cons_tail : {u t : DType} {us ts : List DType} → u ∷ us ≡ t ∷ ts → us ≡ ts
    cons_tail i = cc

root_kind : (s q : ℕ) (t : DType) → record { kind = kind.Row s; nullable = false } ≡ t → t.kind ≡ kind.Row q → s ≡ q
root_kind s q t e i = row_number (ap (λ (z : DType). z.kind) e ∙ i)
  where
    row_number : {s q : ℕ} → kind.Row s ≡ kind.Row q → s ≡ q
    row_number i = cc

module _ (m : Meaning) (law : Lawful m) (ss : Schemas) (plainly : ColumnsPlain ss) where
  -- a node whose type is a Row is a Root
  fn_row : (f : Fn) (es : Exprs) (ts : List DType) (t : DType) (s : ℕ) → typed_all m ss es ≡ Some ts
      → fn_type m ss f ts ≡ Some t → t.kind ≡ kind.Row s → node f es ≡ node (root s) nil
  unfolding fn_type
  fn_row (root q) es ts t s p h i =
      let (e, g) = of_none_is _ ts t h in
      ap (node (root q)) (typed_nil m ss es (rw e at p)) ∙ ap (λ (z : ℕ). node (root z) nil) (root_kind q s t g i)
  fn_row (literal u v) es ts t s p h i =
      let (e, g) = of_none_some _ ts t h in
      let (c, j) = cond_some _ _ _ g in
      absurd (not_row t.kind s (subst (λ (z : DType). plain_kind z.kind ≡ true) j (and_parts _ _ c).1) i)
  fn_row (get_item n) es ts t s p h i =
      let (u, e, g) = of_one_some (λ u. item_type ss n u.kind) ts t h in
      absurd (not_row t.kind s (item_rowless ss plainly n u.kind t g).2 i)
  fn_row (cast u) es ts t s p h i =
      let (w, e, g) = of_one_some (λ w. cast_type u w) ts t h in
      let (c, j) = cond_some _ _ _ g in
      absurd (not_row t.kind s (subst (λ (z : DType). plain_kind z.kind ≡ true) j (and_parts _ _ c).0) i)
  fn_row (compare c) es ts t s p h i =
      let (u, w, e, g) = of_two_some compare_type ts t h in
      absurd (not_row t.kind s (subst (λ (z : DType). plain_kind z.kind ≡ true) (cond_some _ _ _ g).1 refl) i)
  fn_row (compute o) es ts t s p h i =
      let (u, w, e, g) = of_two_some compute_type ts t h in
      let (c, j) = cond_some _ _ _ g in
      absurd
      (not_row t.kind s
      (subst (λ (z : DType). plain_kind z.kind ≡ true) j (number_rowless u.kind (and_parts _ _ c).0)) i)
  fn_row (between o) es ts t s p h i =
      let (u, w, x, e, g) = of_three_some between_type ts t h in
      absurd (not_row t.kind s (subst (λ (z : DType). plain_kind z.kind ≡ true) (cond_some _ _ _ g).1 refl) i)
  fn_row (call c) es ts t s p h i = absurd (not_row t.kind s (law.no_row c ts t h) i)

pub rows_are_roots : RowsAreRoots
rows_are_roots m law ss plainly (logic o a b) t s p i =
    let (ta, pa, p1) = and_then_some (typed m ss a) _ t p in
    let (tb, pb, p2) = and_then_some (typed m ss b) _ t p1 in
    absurd (not_row t.kind s (subst (λ (z : DType). plain_kind z.kind ≡ true) (cond_some _ _ _ p2).1 refl) i)
rows_are_roots m law ss plainly (node f es) t s p i =
    let (ts, ps, p1) = and_then_some (typed_all m ss es) _ t p in
    fn_row m law ss plainly f es ts t s ps p1 i

pub items_are_of_roots : ItemsAreOfRoots
unfolding fn_type
items_are_of_roots m law ss plainly n es t p =
    let (ts, ps, p1) = and_then_some (typed_all m ss es) _ t p in
    let (u, e, g) = of_one_some (λ u. item_type ss n u.kind) ts t p1 in
    let (s, k, _) = item_rowless ss plainly n u.kind t g in
    let (d, ds, j, a, b) = typed_cons m ss es u [] (rw e at ps) in (
      record { name = n; schema = s },
      ap (node (get_item n))
          (j
          ∙ ap (cons d) (typed_nil m ss ds b)
          ∙ ap (λ (z : Expr). cons z nil) (rows_are_roots m law ss plainly d u s a k)),
    )
