-- Range comparisons and the pairs of them that fuse, taken apart.
use Rattle.std.proofs.Common.{◌≡◌, ℕ, Bool, true, false, cond, ◌⊎◌, List, Some, None, Option, sym, refl, ap, ◌∙◌, inl}
use Rattle.std.proofs.Common.{inr}
use Rattle.std.proofs.lemmas.Slice.Eq.{bytes_eq-Decides}
use Rattle.std.proofs.lemmas.Bool.{and_parts, eqb-true}
use Rattle.std.proofs.lemmas.Option.{same_Some}
use Rattle.vocabulary.specs.declared.operators.CompareOperator.{CompareOperator}
use Rattle.vocabulary.specs.declared.operators.CompareOperator.TheVariants.{Eq, NotEq, Gt, Gte, Lt, Lte}
use Rattle.vocabulary.specs.declared.types.DType.{DType}
use Rattle.meaning.specs.Columns.{Schemas}
use Rattle.meaning.specs.Comparing.{swap}
use Rattle.meaning.specs.Fusing.{same_column, between_tree, if_typed, fuse_sides, fuse}
use Rattle.meaning.specs.Hosts.{Meaning}
use Rattle.meaning.specs.Outcomes.{and_then}
use Rattle.meaning.specs.Ranges.{Column, Bound, Range, column_tree, bound_tree, fn_root, root_of, item_over}
use Rattle.meaning.specs.Ranges.{column_of, bound_of, ranged, range_two, range}
use Rattle.meaning.specs.Trees.{Fn, root, literal, get_item, cast, compare, compute, between, call, Expr, logic, node}
use Rattle.meaning.specs.Trees.{Exprs, nil, cons}
use Rattle.meaning.specs.Typing.{typed}
use Rattle.meaning.proofs.CaseSplits.{none_some, and_then_some, mapped_some, or_other_some}

fn_root_inv : (f : Fn) (es : Exprs) (s : ℕ) → fn_root f es ≡ Some s → node f es ≡ node (root s) nil
fn_root_inv (root s) nil t h = ap (λ (z : ℕ). node (root z) nil) (same_Some _ _ h)
fn_root_inv (root s) (cons e es) t h = none_some t h
fn_root_inv (literal t v) es s h = none_some s h
fn_root_inv (get_item n) es s h = none_some s h
fn_root_inv (cast t) es s h = none_some s h
fn_root_inv (compare c) es s h = none_some s h
fn_root_inv (compute o) es s h = none_some s h
fn_root_inv (between o) es s h = none_some s h
fn_root_inv (call c) es s h = none_some s h

-- a Root is the tree of it
root_inv : (e : Expr) (s : ℕ) → root_of e ≡ Some s → e ≡ node (root s) nil
root_inv (logic o a b) s h = none_some s h
root_inv (node f es) s h = fn_root_inv f es s h

item_inv : (n : List ℕ) (es : Exprs) (x : Column) → item_over n es ≡ Some x → node (get_item n) es ≡ column_tree x
item_inv n nil x h = none_some x h
item_inv n (cons e nil) x h =
    let (s, a, i) = mapped_some (λ (s : ℕ). record { name = n; schema = s }) (root_of e) x h in
    ap (λ (z : Expr). node (get_item n) (cons z nil)) (root_inv e s a) ∙ ap column_tree i
item_inv n (cons e (cons d es)) x h = none_some x h

-- a column is the tree of it
column_inv : (e : Expr) (x : Column) → column_of e ≡ Some x → e ≡ column_tree x
column_inv (logic o a b) x h = none_some x h
column_inv (node (root s) es) x h = none_some x h
column_inv (node (literal t v) es) x h = none_some x h
column_inv (node (get_item n) es) x h = item_inv n es x h
column_inv (node (cast t) es) x h = none_some x h
column_inv (node (compare c) es) x h = none_some x h
column_inv (node (compute o) es) x h = none_some x h
column_inv (node (between o) es) x h = none_some x h
column_inv (node (call c) es) x h = none_some x h

-- a literal is the tree of it
bound_inv : (e : Expr) (x : Bound) → bound_of e ≡ Some x → e ≡ bound_tree x
bound_inv (logic o a b) x h = none_some x h
bound_inv (node (root s) es) x h = none_some x h
bound_inv (node (literal t v) nil) x h = ap bound_tree (same_Some _ _ h)
bound_inv (node (literal t v) (cons e es)) x h = none_some x h
bound_inv (node (get_item n) es) x h = none_some x h
bound_inv (node (cast t) es) x h = none_some x h
bound_inv (node (compare c) es) x h = none_some x h
bound_inv (node (compute o) es) x h = none_some x h
bound_inv (node (between o) es) x h = none_some x h
bound_inv (node (call c) es) x h = none_some x h

-- a comparison of two operands
abbrev pub pair : CompareOperator → Expr → Expr → Expr
pair c a b = node (compare c) (cons a (cons b nil))

-- column against literal, or literal against column by the swapped operator
abbrev pub Ranges : Expr → Range → Type 0
Ranges e p =
    (c : CompareOperator)
    × (((e ≡ pair c (column_tree p.col) (bound_tree p.bound)) × (ranged c p.col p.bound ≡ Some p))
    ⊎ ((e ≡ pair c (bound_tree p.bound) (column_tree p.col)) × (ranged (swap c) p.col p.bound ≡ Some p)))

ranged_parts : (c : CompareOperator) (x : Column) (l : Bound) (p : Range) → ranged c x l ≡ Some p
    → (x ≡ p.col) × (l ≡ p.bound)
ranged_parts Eq x l p h = none_some p h
ranged_parts NotEq x l p h = none_some p h
ranged_parts Gt x l p h = let e = same_Some _ _ h in (ap (λ (z : Range). z.col) e, ap (λ (z : Range). z.bound) e)
ranged_parts Gte x l p h = let e = same_Some _ _ h in (ap (λ (z : Range). z.col) e, ap (λ (z : Range). z.bound) e)
ranged_parts Lt x l p h = let e = same_Some _ _ h in (ap (λ (z : Range). z.col) e, ap (λ (z : Range). z.bound) e)
ranged_parts Lte x l p h = let e = same_Some _ _ h in (ap (λ (z : Range). z.col) e, ap (λ (z : Range). z.bound) e)

range_two_inv : (c : CompareOperator) (a b : Expr) (p : Range) → range_two c a b ≡ Some p → Ranges (pair c a b) p
range_two_inv c a b p h =
    elim
    (or_other_some (and_then (column_of a) (λ x. and_then (bound_of b) (λ l. ranged c x l)))
    (and_then (column_of b) (λ x. and_then (bound_of a) (λ l. ranged (swap c) x l))) p h) [
      | inl q ↦
          let (x, i, q1) = and_then_some (column_of a) _ p q in
          let (l, j, q2) = and_then_some (bound_of b) _ p q1 in
          let (u, v) = ranged_parts c x l p q2 in (
            c,
            inl (
              ap (λ (z : Expr). pair c z b) (column_inv a x i ∙ ap column_tree u)
                  ∙ ap (pair c (column_tree p.col)) (bound_inv b l j ∙ ap bound_tree v),
              ap (λ (z : Column). ranged c z p.bound) (sym u) ∙ ap (ranged c x) (sym v) ∙ q2,
            ),
          )
      | inr q ↦
          let (x, i, q1) = and_then_some (column_of b) _ p q.1 in
          let (l, j, q2) = and_then_some (bound_of a) _ p q1 in
          let (u, v) = ranged_parts (swap c) x l p q2 in (
            c,
            inr (
              ap (λ (z : Expr). pair c z b) (bound_inv a l j ∙ ap bound_tree v)
                  ∙ ap (pair c (bound_tree p.bound)) (column_inv b x i ∙ ap column_tree u),
              ap (λ (z : Column). ranged (swap c) z p.bound) (sym u) ∙ ap (ranged (swap c) x) (sym v) ∙ q2,
            ),
          )
    ]

-- a range comparison has one of the two forms
pub range_inv : (e : Expr) (p : Range) → range e ≡ Some p → Ranges e p
unfolding range
range_inv (logic o a b) p h = none_some p h
range_inv (node (root s) es) p h = none_some p h
range_inv (node (literal t v) es) p h = none_some p h
range_inv (node (get_item n) es) p h = none_some p h
range_inv (node (cast t) es) p h = none_some p h
range_inv (node (compare c) nil) p h = none_some p h
range_inv (node (compare c) (cons a nil)) p h = none_some p h
range_inv (node (compare c) (cons a (cons b nil))) p h = range_two_inv c a b p h
range_inv (node (compare c) (cons a (cons b (cons d es)))) p h = none_some p h
range_inv (node (compute o) es) p h = none_some p h
range_inv (node (between o) es) p h = none_some p h
range_inv (node (call c) es) p h = none_some p h

-- the test of two columns tells whether they are one
one_column : (x y : Column) → same_column x y ≡ true → x ≡ y
one_column x y h =
    let (a, b) = and_parts _ _ h in
    ap (λ (z : List ℕ). record { name = z; schema = x.schema }) ((bytes_eq-Decides x.name y.name).0 a)
    ∙ ap (λ (z : ℕ). record { name = y.name; schema = z }) (eqb-true x.schema y.schema b)

-- an expression answered where it binds is that expression, and binds
bound_is : (m : Meaning) (ss : Schemas) (e b : Expr) (x : Option DType) → typed m ss e ≡ x
    → if_typed m ss e x ≡ Some b → (e ≡ b) × ((s : DType) × (typed m ss e ≡ Some s))
bound_is m ss e b None i h = none_some b h
bound_is m ss e b (Some t) i h = (same_Some _ _ h, (t, i))

-- p is the lower range and q the upper, and their Between is b, which binds
abbrev pub Sides : Meaning → Schemas → Range → Range → Expr → Type 0
Sides m ss p q b =
    (p.lower ≡ true) × (q.lower ≡ false) × (between_tree p q ≡ b)
    × ((s : DType) × (typed m ss (between_tree p q) ≡ Some s))

sides_inv : (m : Meaning) (ss : Schemas) (p q : Range) (b : Expr) (x y : Bool) → p.lower ≡ x → q.lower ≡ y
    → fuse_sides m ss p q x y ≡ Some b → Sides m ss p q b ⊎ Sides m ss q p b
sides_inv m ss p q b true true i j h = none_some b h
sides_inv m ss p q b true false i j h =
    let (e, f) = bound_is m ss (between_tree p q) b (typed m ss (between_tree p q)) refl h in inl (i, j, e, f)
sides_inv m ss p q b false true i j h =
    let (e, f) = bound_is m ss (between_tree q p) b (typed m ss (between_tree q p)) refl h in inr (j, i, e, f)
sides_inv m ss p q b false false i j h = none_some b h

ranges_inv : (m : Meaning) (ss : Schemas) (p q : Range) (b : Expr) (c : Bool) → same_column p.col q.col ≡ c
    → cond c (fuse_sides m ss p q p.lower q.lower) None ≡ Some b
    → (p.col ≡ q.col) × (Sides m ss p q b ⊎ Sides m ss q p b)
ranges_inv m ss p q b true i h =
    (one_column p.col q.col i, sides_inv m ss p q b p.lower q.lower refl refl h)
ranges_inv m ss p q b false i h = none_some b h

-- a pair that fuses is a lower and an upper range of one column
pub fuse_inv : (m : Meaning) (ss : Schemas) (d c b : Expr) → fuse m ss d c ≡ Some b
    → (p q : Range) × (range c ≡ Some p) × (range d ≡ Some q) × (p.col ≡ q.col)
    × (Sides m ss p q b ⊎ Sides m ss q p b)
unfolding fuse
fuse_inv m ss d c b h =
    let (p, hp, h1) = and_then_some (range c) _ b h in
    let (q, hq, h2) = and_then_some (range d) _ b h1 in
    let (e, w) = ranges_inv m ss p q b (same_column p.col q.col) refl h2 in
    (p, q, hp, hq, e, w)

-- what a pair fuses into is a Between
pub fuse_is_between : (m : Meaning) (ss : Schemas) (d c b : Expr) → fuse m ss d c ≡ Some b
    → (p q : Range) × (between_tree p q ≡ b)
fuse_is_between m ss d c b h =
    let (p, q, hp, hq, e, w) = fuse_inv m ss d c b h in
    elim w [ inl z ↦ (p, q, z.2) | inr z ↦ (q, p, z.2) ]
