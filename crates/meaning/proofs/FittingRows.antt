-- A row fits just where it has one value per column, each fitting its own.
use Rattle.std.proofs.Common.{◌≡◌, ℕ, zero, suc, true, List, [], ◌∷◌, length, Some, sym, refl, ap, ◌∙◌, arith}
use Rattle.std.proofs.lemmas.Bool.{and_parts, and_from}
use Rattle.std.proofs.lemmas.Option.{same_Some}
use Rattle.schemas.specs.Fields.{Field}
use Rattle.meaning.specs.LawsOfEvaluating.{FittingRowsMatchColumns}
use Rattle.meaning.specs.Lists.{nth}
use Rattle.meaning.specs.Rows.{row_fits}
use Rattle.meaning.specs.Values.{Value, fits}
use Rattle.meaning.proofs.CaseSplits.{none_some, false_true}

-- the values at places where there are columns fit them
abbrev EachFits : List Field → List Value → Type 0
EachFits fs vs = (i : ℕ) (f : Field) (v : Value) → nth fs i ≡ Some f → nth vs i ≡ Some v → fits v f.dtype ≡ true

as_wide : (fs : List Field) (vs : List Value) → row_fits fs vs ≡ true → length vs ≡ length fs
as_wide [] [] h = refl
as_wide [] (v ∷ vs) h = false_true h
as_wide (f ∷ fs) [] h = false_true h
as_wide (f ∷ fs) (v ∷ vs) h = ap suc (as_wide fs vs (and_parts (fits v f.dtype) (row_fits fs vs) h).1)

each_fits : (fs : List Field) (vs : List Value) → row_fits fs vs ≡ true → EachFits fs vs
each_fits [] vs h i f v p q = none_some f p
each_fits (g ∷ fs) [] h i f v p q = none_some v q
each_fits (g ∷ fs) (w ∷ vs) h zero f v p q =
    let here = (and_parts (fits w g.dtype) (row_fits fs vs) h).0 in
    ap (λ (x : Value). fits x f.dtype) (sym (same_Some _ _ q))
    ∙ ap (λ (k : Field). fits w k.dtype) (sym (same_Some _ _ p))
    ∙ here
each_fits (g ∷ fs) (w ∷ vs) h (suc i) f v p q =
    each_fits fs vs (and_parts (fits w g.dtype) (row_fits fs vs) h).1 i f v p q

so_it_fits : (fs : List Field) (vs : List Value) → length vs ≡ length fs → EachFits fs vs → row_fits fs vs ≡ true
so_it_fits [] [] l e = refl
so_it_fits [] (v ∷ vs) l e = absurd (omega arith)
so_it_fits (f ∷ fs) [] l e = absurd (omega arith)
so_it_fits (f ∷ fs) (v ∷ vs) l e =
    and_from (fits v f.dtype) (row_fits fs vs) (e 0 f v refl refl)
    (so_it_fits fs vs (omega arith) (λ i. e (suc i)))

pub fitting_rows_match_columns : FittingRowsMatchColumns
fitting_rows_match_columns fs vs =
    (λ h. (as_wide fs vs h, each_fits fs vs h), λ both. so_it_fits fs vs both.0 both.1)
