-- A row of one schema as an environment.
use Rattle.std.specs.Prelude.{ℕ, Bool, true, false, cond, ◌&&◌, List, [], ◌∷◌, pos, Some, None, Option, ◌==◌}
use Rattle.std.specs.Str.{bytes_eq}
use Rattle.vocabulary.specs.declared.types.DType.{DType}
use Rattle.vocabulary.specs.declared.types.Kind.{Kind}
use Rattle.vocabulary.specs.declared.types.Kind.TheVariants as kind
use Rattle.schemas.specs.Fields.{Field}
use Rattle.meaning.specs.Lists.{nth}
use Rattle.meaning.specs.Values.{Value, null, bool, signed, unsigned, text, ext, whole, fits}
use Rattle.meaning.specs.Columns.{Schemas, column_type}
use Rattle.meaning.specs.Evaluating.{Env}

-- one value per column, each fitting its column's type
abbrev pub row_fits : List Field → List Value → Bool
row_fits [] [] = true
row_fits [] (v ∷ vs) = false
row_fits (c ∷ cs) [] = false
row_fits (c ∷ cs) (v ∷ vs) = fits v c.dtype && row_fits cs vs

-- the row's value in the column of that name
abbrev pub value_in : List Field → List Value → List ℕ → Option Value
value_in [] vs n = None
value_in (c ∷ cs) [] n = None
value_in (c ∷ cs) (v ∷ vs) n = cond (bytes_eq c.name n) (Some v) (value_in cs vs n)

-- some value of a kind, for the columns of schemas that the row is not of
abbrev pub some_value : Kind → Value
some_value kind.Bool = bool false
some_value kind.I64 = signed (pos 0)
some_value kind.U64 = unsigned 0
some_value kind.Utf8 = text []
some_value (kind.Extension e) = ext e (pos 0)
some_value (kind.Row s) = whole s

-- the value, or else some value of the type
abbrev pub value_or : Option Value → Option DType → Value
value_or (Some v) t = v
value_or None None = null
value_or None (Some t) = some_value t.kind

-- the columns, none where there is no schema
abbrev pub or_no_columns : Option (List Field) → List Field
or_no_columns None = []
or_no_columns (Some cs) = cs

-- the columns of the schema of that number
abbrev pub columns_of : Schemas → ℕ → List Field
columns_of ss s = or_no_columns (nth ss s)

-- the environment that a row of schema s makes
abbrev pub row_env : Schemas → ℕ → List Value → Env
row_env ss s vs q n =
    cond (q == s) (value_or (value_in (columns_of ss s) vs n) None) (value_or None (column_type ss q n))
