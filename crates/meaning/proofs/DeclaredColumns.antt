-- Columns that were declared one by one have plain types.
use Rattle.std.proofs.Common.{◌≡◌, ℕ, ◌+◌, Bool, true, false, cond, List, [], ◌∷◌, ◌++◌, Some, subst}
use Rattle.std.proofs.lemmas.Bool.{and_parts}
use Rattle.std.specs.Str.{bytes_eq}
use Rattle.std.proofs.lemmas.Option.{same_Some}
use Rattle.vocabulary.specs.Types.{is_plain}
use Rattle.vocabulary.specs.declared.types.DType.{DType}
use Rattle.schemas.specs.Declarations.{takes, declared_after}
use Rattle.schemas.specs.Fields.{Field, found_from}
use Rattle.schemas.specs.declared.found.Found.{Found}
use Rattle.meaning.specs.Columns.{column_type, DeclaredColumnsArePlain}
use Rattle.meaning.specs.Lists.{nth}
use Rattle.meaning.proofs.CaseSplits.{none_some, and_then_some, mapped_some}

-- a column that a schema takes is plain
taken_plain : (fs : List Field) (f : Field) → takes fs f ≡ true → is_plain f.dtype ≡ true
taken_plain fs f h = (and_parts _ _ (and_parts _ _ h).1).0

-- so is each that is found among columns declared behind others
found_plain : (i : ℕ) (n : List ℕ) (before fs : List Field) (x : Found)
    → declared_after before fs ≡ true → found_from i n fs ≡ Some x → is_plain x.dtype ≡ true
found_plain i n before [] x p h = none_some x h
found_plain i n before (f ∷ fs) x p h =
    here_or_later (bytes_eq f.name n) (found_plain (i + 1) n (before ++ (f ∷ [])) fs x (and_parts _ _ p).1) h
  where
    here_or_later : (b : Bool)
        → (found_from (i + 1) n fs ≡ Some x → is_plain x.dtype ≡ true)
        → cond b (Some (record { place = i; dtype = f.dtype })) (found_from (i + 1) n fs) ≡ Some x
        → is_plain x.dtype ≡ true
    here_or_later true later e =
        subst (λ (z : Found). is_plain z.dtype ≡ true) (same_Some _ _ e) (taken_plain before f (and_parts _ _ p).0)
    here_or_later false later e = later e

pub declared_columns_are_plain : DeclaredColumnsArePlain
unfolding column_type
declared_columns_are_plain ss ok s n t h =
    let (fs, a, g) = and_then_some (nth ss s) _ t h in
    let (x, b, e) = mapped_some (λ (c : Found). c.dtype) (found_from 0 n fs) t g in
    subst (λ (z : DType). is_plain z ≡ true) e (found_plain 0 n [] fs x (ok s fs a) b)
