-- What a line says.
use Rattle.std.specs.Prelude.{ℕ, ◌-◌, cond, ◌||◌, List, length, Some, None, Ok, Err, codes, Option, Result, ◌==◌}
use Rattle.std.specs.Prelude.{slice_index}
use Rattle.std.specs.Str.{bytes_eq}
use Rattle.vocabulary.specs.declared.types.DType.{DType}
use Rattle.notation.specs.declared.line.Complaint.{Complaint}
use Rattle.notation.specs.declared.line.Complaint.TheVariants.{NoSuchDirective, NameMissing, TypeMissing, NotAType}
use Rattle.notation.specs.declared.line.Complaint.TheVariants.{Surplus}
use Rattle.notation.specs.declared.line.Directive.{Directive}
use Rattle.notation.specs.declared.line.Directive.TheVariants as directive
use Rattle.notation.specs.declared.line.Line.{Line}
use Rattle.notation.specs.declared.line.Line.TheVariants.{Blank, Column}
use Rattle.notation.specs.declared.line.Mistake.{Mistake}
use Rattle.notation.specs.TypeNames.{type_named}
use Rattle.notation.specs.Words.{after_blanks, word, after_word}

-- nothing, or a column of that name and type
pub data Said : Type 0 where
  nothing : Said
  column : List ℕ → DType → Said

abbrev pub said : Line → Said
said Blank = nothing
said (Column name t) = column name.now t

-- a complaint about the place where the rest of the line begins
abbrev pub mistaken : List ℕ → List ℕ → Complaint → Mistake
mistaken line rest why = record { at = length line - length rest; complaint = why }

-- behind the type nothing may stand
abbrev pub column_end : List ℕ → List ℕ → DType → List ℕ → Result Said Mistake
column_end line name t rest = cond (length rest == 0) (Ok (column name t)) (Err (mistaken line rest Surplus))

abbrev pub column_with_type : List ℕ → List ℕ → List ℕ → Option DType → Result Said Mistake
column_with_type line name rest None = Err (mistaken line rest NotAType)
column_with_type line name rest (Some t) = column_end line name t (after_blanks (after_word rest))

-- behind the name stands the type
abbrev pub column_named : List ℕ → List ℕ → List ℕ → Result Said Mistake
column_named line name rest =
    cond (length rest == 0) (Err (mistaken line rest TypeMissing))
    (column_with_type line name rest (type_named (word rest)))

-- behind the word `column` stands the name
abbrev pub column_line : List ℕ → List ℕ → Result Said Mistake
column_line line rest =
    cond (length rest == 0) (Err (mistaken line rest NameMissing))
    (column_named line (word rest) (after_blanks (after_word rest)))

-- the directive of that name
abbrev pub directive_named : List ℕ → Option Directive
directive_named name = cond (bytes_eq name (codes "column")) (Some directive.Column) None

abbrev pub directed : List ℕ → List ℕ → Option Directive → Result Said Mistake
directed line start None = Err (mistaken line start NoSuchDirective)
directed line start (Some directive.Column) = column_line line (after_blanks (after_word start))

-- a line begins with its directive; an empty line and one that begins with # say nothing
abbrev pub started : List ℕ → List ℕ → Result Said Mistake
started line start =
    cond (length start == 0 || slice_index start 0 == 35) (Ok nothing)
    (directed line start (directive_named (word start)))

abbrev pub line_said : List ℕ → Result Said Mistake
line_said line = started line (after_blanks line)
