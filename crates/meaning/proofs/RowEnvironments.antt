-- A row of one schema as an environment: its values fit, and each column reads its place.
use Rattle.std.proofs.Common.{◌≡◌, ℕ, zero, suc, ◌+◌, ◌≤◌, Bool, true, false, cond, eqb, List, [], ◌∷◌, Some, None}
use Rattle.std.proofs.Common.{Option, sym, refl, ap, ◌∙◌, subst, arith}
use Rattle.std.proofs.lemmas.Bool.{and_parts, eqb-true}
use Rattle.std.proofs.lemmas.Bool.Decides.{nat_tests}
use Rattle.std.specs.Option.{option_map}
use Rattle.std.specs.Str.{bytes_eq}
use Rattle.std.proofs.lemmas.Option.{same_Some}
use Rattle.vocabulary.specs.declared.types.DType.{DType}
use Rattle.vocabulary.specs.declared.types.Kind.{Kind}
use Rattle.schemas.specs.Fields.{Field, found, found_from}
use Rattle.schemas.specs.declared.found.Found.{Found}
use Rattle.meaning.specs.Columns.{Schemas, column_type}
use Rattle.meaning.specs.Evaluating.{fn_value, eval}
use Rattle.meaning.specs.LawsOfEvaluating.{RowsFit, ItemsFit, ItemsReadTheirPlace}
use Rattle.meaning.specs.Lists.{nth}
use Rattle.meaning.specs.Ranges.{column_tree}
use Rattle.meaning.specs.Rows.{row_fits, value_in, some_value, value_or, or_no_columns, columns_of, row_env}
use Rattle.meaning.specs.Typing.{fn_type, typed}
use Rattle.meaning.specs.Values.{Value, fits}
use Rattle.meaning.proofs.CaseSplits.{none_some, false_true, and_then_some}
use Rattle.meaning.proofs.RowsAtRoots.{items_are_of_roots}

-- each type has a value
some_fits : (t : DType) → fits (some_value t.kind) t ≡ true
some_fits t = go t.kind t.nullable
  where
    go : (k : Kind) (n : Bool) → fits (some_value k) (record { kind = k; nullable = n }) ≡ true
    go k n = grind (arith, nat_tests)

-- a column that is found has a value of the row, which fits
in_row : (i : ℕ) (cs : List Field) (vs : List Value) (n : List ℕ) (t : DType) → row_fits cs vs ≡ true
    → option_map (λ c. c.dtype) (found_from i n cs) ≡ Some t
    → (v : Value) × (value_in cs vs n ≡ Some v) × (fits v t ≡ true)
in_row i [] vs n t p h = none_some t h
in_row i (c ∷ cs) [] n t p h = false_true p
in_row i (c ∷ cs) (v ∷ vs) n t p h =
    go (bytes_eq c.name n) (and_parts _ _ p).0 (in_row (i + 1) cs vs n t (and_parts _ _ p).1) h
  where
    go : (b : Bool) → fits v c.dtype ≡ true
        → (option_map (λ c. c.dtype) (found_from (i + 1) n cs) ≡ Some t
        → (w : Value) × (value_in cs vs n ≡ Some w) × (fits w t ≡ true))
        → option_map (λ c. c.dtype) (cond b (Some (record { place = i; dtype = c.dtype })) (found_from (i + 1) n cs))
        ≡ Some t → (w : Value) × (cond b (Some v) (value_in cs vs n) ≡ Some w) × (fits w t ≡ true)
    go true f g e = (v, refl, subst (λ (z : DType). fits v z ≡ true) (same_Some _ _ e) f)
    go false f g e = g e

-- the type of a column is that of the column found
own_columns : (ss : Schemas) (s : ℕ) (n : List ℕ) (t : DType) → column_type ss s n ≡ Some t
    → option_map (λ c. c.dtype) (found n (columns_of ss s)) ≡ Some t
unfolding column_type
own_columns ss s n t h =
    let (cs, a, g) = and_then_some (nth ss s) _ t h in
    ap (λ (z : Option (List Field)). option_map (λ c. c.dtype) (found n (or_no_columns z))) a ∙ g

-- a column of the row's schema reads the row, any other some value
row_fit : (ss : Schemas) (s : ℕ) (vs : List Value) → row_fits (columns_of ss s) vs ≡ true
    → (q : ℕ) (n : List ℕ) (t : DType) → column_type ss q n ≡ Some t → (b : Bool) → eqb q s ≡ b
    → fits (cond b (value_or (value_in (columns_of ss s) vs n) None) (value_or None (column_type ss q n))) t ≡ true
row_fit ss s vs p q n t h true e =
    let (v, i, f) =
    in_row 0 (columns_of ss s) vs n t p
    (own_columns ss s n t (subst (λ (z : ℕ). column_type ss z n ≡ Some t) (eqb-true q s e) h)) in
    rw i f
row_fit ss s vs p q n t h false e = rw h (some_fits t)

pub rows_fit : RowsFit
rows_fit ss s vs p = record { fit = λ q n t h. row_fit ss s vs p q n t h (eqb q s) refl }

pub items_fit : ItemsFit
unfolding fn_value fn_type
items_fit m law ss plainly s vs fit n es t p =
    let (x, e) = items_are_of_roots m law ss plainly n es t p in
    let q : typed m ss (column_tree x) ≡ Some t = ap (typed m ss) (sym e) ∙ p in (
      row_env ss s vs x.schema x.name,
      ap (eval m (row_env ss s vs)) e,
      (rows_fit ss s vs fit).fit x.schema x.name t q,
    )

-- a column is found at a place behind those passed
from_place : (i : ℕ) (n : List ℕ) (cs : List Field) (f : Found) → found_from i n cs ≡ Some f → i ≤ f.place
from_place i n [] f p = none_some f p
from_place i n (c ∷ cs) f p = go (bytes_eq c.name n) (λ e. from_place (i + 1) n cs f e) p
  where
    go : (b : Bool) → (found_from (i + 1) n cs ≡ Some f → i + 1 ≤ f.place)
        → cond b (Some (record { place = i; dtype = c.dtype })) (found_from (i + 1) n cs) ≡ Some f → i ≤ f.place
    go true g e = let h = ap (λ (z : Found). z.place) (same_Some _ _ e) in omega arith
    go false g e = let h = g e in omega arith

-- the column found at a place reads the value at that place
value_at : (cs : List Field) (vs : List Value) (n : List ℕ) (i j : ℕ) (f : Found) (v : Value)
    → found_from i n cs ≡ Some f → f.place ≡ i + j → nth vs j ≡ Some v → value_in cs vs n ≡ Some v
value_at [] vs n i j f v p q h = none_some f p
value_at (c ∷ cs) [] n i j f v p q h = none_some v h
value_at (c ∷ cs) (w ∷ vs) n i zero f v p q h = go (bytes_eq c.name n) p
  where
    go : (b : Bool) → cond b (Some (record { place = i; dtype = c.dtype })) (found_from (i + 1) n cs) ≡ Some f
        → cond b (Some w) (value_in cs vs n) ≡ Some v
    go true e = h
    go false e = let k = from_place (i + 1) n cs f e in absurd (omega arith)
value_at (c ∷ cs) (w ∷ vs) n i (suc j) f v p q h =
    go (bytes_eq c.name n) (λ e. value_at cs vs n (i + 1) j f v e (omega arith) h) p
  where
    go : (b : Bool) → (found_from (i + 1) n cs ≡ Some f → value_in cs vs n ≡ Some v)
        → cond b (Some (record { place = i; dtype = c.dtype })) (found_from (i + 1) n cs) ≡ Some f
        → cond b (Some w) (value_in cs vs n) ≡ Some v
    go true g e = let k = ap (λ (z : Found). z.place) (same_Some _ _ e) in absurd (omega arith)
    go false g e = g e

pub items_read_their_place : ItemsReadTheirPlace
items_read_their_place ss s vs n f v p h =
    let e = value_at (columns_of ss s) vs n 0 f.place f v p (omega arith) h in go (eqb s s) (self s) e
  where
    self : (s : ℕ) → eqb s s ≡ true
    self s = grind (arith, nat_tests)

    go : (b : Bool) → b ≡ true → value_in (columns_of ss s) vs n ≡ Some v
        → cond b (value_or (value_in (columns_of ss s) vs n) None) (value_or None (column_type ss s n)) ≡ v
    go b p e = simp (p, e)
