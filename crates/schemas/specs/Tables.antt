-- A schema as its readers see it, a list of columns, and the table that holds it.
use Rattle.std.specs.Prelude.{◌≡◌, ◌-◌, ◌≤◌, true, false, List, [], ◌++◌, length, take, drop, replicate}
use Rattle.std.proofs.Common.{refl, arith}
use Rattle.std.proofs.lemmas.List.{length-take-le, take-append-drop}
use Rattle.vocabulary.specs.declared.types.Kind.TheVariants as kind
use Rattle.schemas.specs.Declarations.{declared}
use Rattle.schemas.specs.Fields.{Field}
use Rattle.schemas.specs.declared.tables.Schema.TheInside.{Inside}

-- the columns are those in front
abbrev pub columns_of : Inside → List Field
columns_of s = take s.count s.columns

-- what stands in a place that no column has
abbrev pub unused : Field
unused = record { name = []; dtype = record { kind = kind.Bool; nullable = false } }

-- the table of columns
abbrev pub table_of : List Field → Inside
table_of fs = record { columns = fs ++ replicate (32 - length fs) unused; count = length fs }

-- at most 32 columns, declared one by one, and nothing behind them
pub record DeclaredOneByOne (s : Inside) : Type 0 where
  pub whole : length s.columns ≡ 32
  pub few : s.count ≤ 32
  pub behind : drop s.count s.columns ≡ replicate (32 - s.count) unused
  pub sound : declared (columns_of s) ≡ true

-- so a table holds nothing but its columns
pub restored : (s : Inside) → DeclaredOneByOne s → table_of (columns_of s) ≡ s
restored s h =
    let counted = length-take-le s.count s.columns (omega (arith, h.whole, h.few)) in
    rw (counted, ← h.behind, take-append-drop s.count s.columns) refl
