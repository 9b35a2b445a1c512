-- How types are written.
use Rattle.std.specs.Prelude.{ℕ, ◌-◌, true, false, cond, List, length, take, drop, Some, None, codes, Option, nat_lt}
use Rattle.std.specs.Option.{option_map}
use Rattle.std.specs.Str.{bytes_eq}
use Rattle.vocabulary.specs.Types.{type_of}
use Rattle.vocabulary.specs.declared.types.DType.{DType}
use Rattle.vocabulary.specs.declared.types.Kind.{Kind}
use Rattle.vocabulary.specs.declared.types.Kind.TheVariants.{Bool as Boolean, I64, U64, Utf8, Extension, Row}
use Rattle.notation.specs.Naturals.{natural}

-- what stands in front of an ending, if the text has it
abbrev pub without_ending : List ℕ → List ℕ → Option (List ℕ)
without_ending ending text =
    cond (bytes_eq (drop (length text - length ending) text) ending)
    (Some (take (length text - length ending) text)) None

-- what stands behind a beginning, if the text has it
abbrev pub without_beginning : List ℕ → List ℕ → Option (List ℕ)
without_beginning beginning text =
    cond (bytes_eq (take (length beginning) text) beginning) (Some (drop (length beginning) text)) None

-- what is answered of a part, if there is one
abbrev pub of_part : {A B : Type 0} → (A → Option B) → Option A → Option B
of_part f None = None
of_part f (Some x) = f x

-- a number of one byte
abbrev pub byte_named : List ℕ → Option ℕ
byte_named digits = of_part (λ n. cond (nat_lt n 256) (Some n) None) (natural digits)

-- the number between the word and a closing bracket, as in Extension(3)
abbrev pub number_after : List ℕ → List ℕ → Option ℕ
number_after beginning name =
    of_part byte_named (of_part (without_ending (codes ")")) (without_beginning beginning name))

-- the first answer, or else the second
abbrev pub or_else : {A : Type 0} → Option A → Option A → Option A
or_else None other = other
or_else (Some x) other = Some x

-- an Extension or a Row, by its number
abbrev pub numbered_kind : List ℕ → Option Kind
numbered_kind name =
    or_else
    (option_map Extension (number_after (codes "Extension(") name))
    (option_map Row (number_after (codes "Row(") name))

abbrev pub kind_named : List ℕ → Option Kind
kind_named name =
    cond (bytes_eq name (codes "Bool")) (Some Boolean)
    (cond (bytes_eq name (codes "I64")) (Some I64)
    (cond (bytes_eq name (codes "U64")) (Some U64)
    (cond (bytes_eq name (codes "Utf8")) (Some Utf8)
    (numbered_kind name))))

-- a question mark behind the kind makes the type nullable
abbrev pub marked_type : List ℕ → Option (List ℕ) → Option DType
marked_type name (Some kind) = option_map (λ k. type_of k true) (kind_named kind)
marked_type name None = option_map (λ k. type_of k false) (kind_named name)

abbrev pub type_named : List ℕ → Option DType
type_named name = marked_type name (without_ending (codes "?") name)
