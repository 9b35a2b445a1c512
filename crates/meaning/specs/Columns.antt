-- The columns of the schemas.
use Rattle.std.specs.Prelude.{◌≡◌, ℕ, true, List, Some, Option}
use Rattle.std.specs.Option.{option_map}
use Rattle.vocabulary.specs.declared.types.DType.{DType}
use Rattle.vocabulary.specs.Types.{plain_kind}
use Rattle.schemas.specs.Declarations.{declared}
use Rattle.schemas.specs.Fields.{Field, found}
use Rattle.meaning.specs.Outcomes.{and_then}
use Rattle.meaning.specs.Lists.{nth}

-- the columns of each schema, by its number
abbrev pub Schemas : Type 0
Schemas = List (List Field)

-- the type of the column of that name in that schema
unfoldable pub column_type : Schemas → ℕ → List ℕ → Option DType
column_type ss s n = and_then (nth ss s) (λ fs. option_map (λ c. c.dtype) (found n fs))

-- no column has a Row for its type, or an Extension above 15
abbrev pub ColumnsPlain : Schemas → Type 0
ColumnsPlain ss = (s : ℕ) (n : List ℕ) (t : DType) → column_type ss s n ≡ Some t → plain_kind t.kind ≡ true

-- schemas whose columns were declared one by one have plain columns
abbrev pub DeclaredColumnsArePlain : Type 0
DeclaredColumnsArePlain =
    (ss : Schemas)
    → ((s : ℕ) (fs : List Field) → nth ss s ≡ Some fs → declared fs ≡ true)
    → ColumnsPlain ss
