-- The type of a column, by looking it up.
use Rattle.std.proofs.Common.{◌≡◌, ℕ, zero, suc, ◌<◌, ◌≤◌, Bool, true, false, ltb, List, [], ◌∷◌, length, get_or}
use Rattle.std.proofs.Common.{Some, None, Option, sym, refl, ap, ◌∙◌, arith}
use Rattle.std.proofs.lemmas.Bool.{ltb-true, ltb-false}
use Rattle.std.specs.Option.{option_map, option_flatten}
use Rattle.std.specs.Result.{result_ok}
use Rattle.vocabulary.specs.declared.types.DType.{DType}
use Rattle.schemas.specs.declared.found.Found.{Found}
use Rattle.schemas.specs.AllSchemas.{sought}
use Rattle.schemas.specs.Fields.{Field, found}
use Rattle.meaning.specs.Columns.{Schemas, column_type}
use Rattle.meaning.specs.Lists.{nth}
use Rattle.meaning.specs.Outcomes.{and_then}

nth_there : {A : Type 0} (ys : List A) (n : ℕ) (d : A) → n < length ys → nth ys n ≡ Some (get_or ys n d)
nth_there [] n d h = absurd (omega arith)
nth_there (y ∷ ys) zero d h = refl
nth_there (y ∷ ys) (suc n) d h = nth_there ys n d (omega arith)

nth_past : {A : Type 0} (ys : List A) (n : ℕ) → length ys ≤ n → nth ys n ≡ None
nth_past [] n h = refl
nth_past (y ∷ ys) zero h = absurd (omega arith)
nth_past (y ∷ ys) (suc n) h = nth_past ys n (omega arith)

-- the type of the column of that name among columns, where there are some
abbrev column : List ℕ → Option (List Field) → Option DType
column name o = and_then o (λ fs. option_map (λ c. c.dtype) (found name fs))

-- a column's type is that of what is found under its name
pub column_sought : (fss : Schemas) (s : ℕ) (name : List ℕ) → length fss ≡ 8
    → (o : Option Found) → o ≡ option_flatten (result_ok (sought s name fss))
    → column_type fss s name ≡ option_map (λ (f : Found). f.dtype) o
unfolding column_type
column_sought fss s name l o is = go (ltb s 8) refl ∙ ap (option_map (λ (f : Found). f.dtype)) (sym is)
  where
    go : (b : Bool) → ltb s 8 ≡ b
        → column_type fss s name ≡ option_map (λ (f : Found). f.dtype) (option_flatten (result_ok (sought s name fss)))
    go true e =
        let h = ltb-true s 8 e in
        ap (column name) (nth_there fss s [] (omega arith)) ∙ rw e refl
    go false e =
        let h = ltb-false s 8 e in
        ap (column name) (nth_past fss s (omega arith)) ∙ rw e refl

-- a schema that there is not has no columns
pub column_past : (fss : Schemas) (s : ℕ) (name : List ℕ) → length fss ≤ s → column_type fss s name ≡ None
unfolding column_type
column_past fss s name h = ap (column name) (nth_past fss s h)
