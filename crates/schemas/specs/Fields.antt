-- Columns as their readers see them, and looking one up by its name.
use Rattle.std.specs.Prelude.{ℕ, ◌+◌, cond, List, [], ◌∷◌, Some, None, Option}
use Rattle.std.specs.Str.{bytes_eq}
use Rattle.vocabulary.specs.declared.types.DType.{DType}
use Rattle.schemas.specs.declared.column.Column.{Column}
use Rattle.schemas.specs.declared.found.Found.{Found}

-- a column: its name's bytes and its type
abbrev pub Field : Type 0
Field = Column

abbrev pub field : List ℕ → DType → Field
field n t = record { name = n; dtype = t }

-- the first column of that name, where the first of the list stands at place i
abbrev pub found_from : ℕ → List ℕ → List Field → Option Found
found_from i name [] = None
found_from i name (f ∷ fs) =
    cond (bytes_eq f.name name) (Some (record { place = i; dtype = f.dtype })) (found_from (i + 1) name fs)

-- the place and the type of the column of that name
abbrev pub found : List ℕ → List Field → Option Found
found name fs = found_from 0 name fs
