-- Which columns a schema takes.
use Rattle.std.specs.Prelude.{◌≡◌, ℕ, ◌<◌, ◌≤◌, Bool, true, not, ◌&&◌, List, [], ◌∷◌, ◌++◌, length, get_or}
use Rattle.std.specs.Prelude.{is_some, Some, nat_le, nat_lt}
use Rattle.vocabulary.specs.Types.{is_plain}
use Rattle.schemas.specs.Fields.{Field, found}

-- a name has 1 to 32 bytes
abbrev pub good_name : List ℕ → Bool
good_name n = nat_le 1 (length n) && nat_le (length n) 32

-- the columns take one more: good name, plain type, fewer than 32 so far, and none of that name
abbrev pub takes : List Field → Field → Bool
takes fs f =
    good_name f.name && (is_plain f.dtype && (nat_lt (length fs) 32 && not (is_some (found f.name fs))))

-- each column is taken by those before it
abbrev pub declared_after : List Field → List Field → Bool
declared_after before [] = true
declared_after before (f ∷ fs) = takes before f && declared_after (before ++ (f ∷ [])) fs

-- the columns of a schema were declared one by one
abbrev pub declared : List Field → Bool
declared fs = declared_after [] fs

-- a schema has at most 32 columns, and each is found under its own name: no two share one
abbrev pub NamesTellColumns : Type 0
NamesTellColumns =
    (fs : List Field)
    → declared fs ≡ true
    → (length fs ≤ 32)
    × ((i : ℕ) (d : Field) → i < length fs
    → found (get_or fs i d).name fs ≡ Some (record { place = i; dtype = (get_or fs i d).dtype }))
