-- The laws of evaluation: values fit their types, rows stand at Roots alone, and faults are placed.
use Rattle.std.specs.Prelude.{◌≡◌, ℕ, true, List, length, Some, Decides, ◌≢◌}
use Rattle.vocabulary.specs.declared.types.DType.{DType}
use Rattle.vocabulary.specs.declared.types.Kind.TheVariants.{Row}
use Rattle.schemas.specs.declared.found.Found.{Found}
use Rattle.schemas.specs.Fields.{Field, found}
use Rattle.meaning.specs.Outcomes.{Fault, malformed, value, fault}
use Rattle.meaning.specs.Lists.{nth}
use Rattle.meaning.specs.Values.{Value, fits}
use Rattle.meaning.specs.Hosts.{Meaning}
use Rattle.meaning.specs.Lawful.{Lawful, NamesArguments}
use Rattle.meaning.specs.Trees.{Fn, root, get_item, Expr, node, Exprs, nil}
use Rattle.meaning.specs.Columns.{Schemas, ColumnsPlain}
use Rattle.meaning.specs.Typing.{typed}
use Rattle.meaning.specs.Evaluating.{Env, EnvFits, fn_value, eval, evals}
use Rattle.meaning.specs.Rows.{row_fits, columns_of, row_env}
use Rattle.meaning.specs.Places.{faulted, forget_place, eval_placed, at_path}
use Rattle.meaning.specs.Ranges.{Column, column_tree}

-- the value of an expression fits its type
abbrev pub ValuesFit : Type 0
ValuesFit =
    (m : Meaning) → Lawful m
    → (ss : Schemas) (r : Env) → EnvFits ss r
    → (e : Expr) (t : DType) (v : Value) → typed m ss e ≡ Some t → eval m r e ≡ value v → fits v t ≡ true

-- an expression that binds never faults as one that does not
abbrev pub BoundTreesAreWellFormed : Type 0
BoundTreesAreWellFormed =
    (m : Meaning) → Lawful m → NamesArguments m
    → (ss : Schemas) (r : Env) → EnvFits ss r → ColumnsPlain ss
    → (e : Expr) (t : DType) → typed m ss e ≡ Some t → eval m r e ≢ fault malformed

-- an expression whose type is a Row is a Root
abbrev pub RowsAreRoots : Type 0
RowsAreRoots =
    (m : Meaning) → Lawful m
    → (ss : Schemas) → ColumnsPlain ss
    → (e : Expr) (t : DType) (s : ℕ) → typed m ss e ≡ Some t → t.kind ≡ Row s → e ≡ node (root s) nil

-- a GetItem is always one of a Root
abbrev pub ItemsAreOfRoots : Type 0
ItemsAreOfRoots =
    (m : Meaning) → Lawful m
    → (ss : Schemas) → ColumnsPlain ss
    → (n : List ℕ) (es : Exprs) (t : DType) → typed m ss (node (get_item n) es) ≡ Some t
    → (x : Column) × (node (get_item n) es ≡ column_tree x)

-- a fitting row of one schema makes a fitting environment
abbrev pub RowsFit : Type 0
RowsFit =
    (ss : Schemas) (s : ℕ) (vs : List Value) → row_fits (columns_of ss s) vs ≡ true → EnvFits ss (row_env ss s vs)

-- a fitting row has one value per column, each fitting its own; and such a row fits
abbrev pub FittingRowsMatchColumns : Type 0
FittingRowsMatchColumns =
    (fs : List Field) (vs : List Value)
    → Decides (row_fits fs vs)
    ((length vs ≡ length fs)
    × ((i : ℕ) (f : Field) (v : Value) → nth fs i ≡ Some f → nth vs i ≡ Some v → fits v f.dtype ≡ true))

-- a fitting row gives each GetItem a value, and it fits
abbrev pub ItemsFit : Type 0
ItemsFit =
    (m : Meaning) → Lawful m
    → (ss : Schemas) → ColumnsPlain ss
    → (s : ℕ) (vs : List Value) → row_fits (columns_of ss s) vs ≡ true
    → (n : List ℕ) (es : Exprs) (t : DType) → typed m ss (node (get_item n) es) ≡ Some t
    → (v : Value) × (eval m (row_env ss s vs) (node (get_item n) es) ≡ value v) × (fits v t ≡ true)

-- a column of the row's schema has the row's value at the column's place
abbrev pub ItemsReadTheirPlace : Type 0
ItemsReadTheirPlace =
    (ss : Schemas) (s : ℕ) (vs : List Value) (n : List ℕ) (f : Found) (v : Value)
    → found n (columns_of ss s) ≡ Some f → nth vs f.place ≡ Some v → row_env ss s vs s n ≡ v

-- the node at the end of the path faults of itself, over children that have values
pub record FaultsAt (m : Meaning) (r : Env) (e : Expr) (x : Fault) (p : List ℕ) : Type 0 where
  pub function : Fn
  pub children : Exprs
  pub values : List Value
  pub there : at_path e p ≡ Some (node function children)
  pub have_values : evals m r children ≡ value values
  pub itself : fn_value m r function values ≡ fault x

-- the path leads to the node that faults, and with it left out the outcome is that of evaluation
abbrev pub PlacesNameTheFault : Type 0
PlacesNameTheFault =
    (m : Meaning) (r : Env) (e : Expr)
    → (forget_place (eval_placed m r e) ≡ eval m r e)
    × ((x : Fault) (p : List ℕ) → eval_placed m r e ≡ faulted x p → FaultsAt m r e x p)
