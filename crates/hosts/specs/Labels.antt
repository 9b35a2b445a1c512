-- The host Labels: the length of a text, of code 0, and whether a text begins with another, of code 1.
use Rattle.std.specs.Prelude.{◌≡◌, ℕ, Bool, true, false, cond, ◌&&◌, ◌||◌, List, [], ◌∷◌, ◌++◌, length, is_some, Some}
use Rattle.std.specs.Prelude.{None, Decides, Option, ◌==◌}
use Rattle.vocabulary.specs.declared.types.DType.{DType}
use Rattle.vocabulary.specs.declared.types.Kind.TheVariants as kind
use Rattle.vocabulary.specs.Types.{same_kind, type_of}
use Rattle.meaning.specs.Lists.{of_one, of_two}
use Rattle.meaning.specs.Values.{Value, null, bool, signed, unsigned, text, ext, whole}
use Rattle.meaning.specs.Hosts.{Constant, Reply, plain, fails, Answer, nothing, Meaning}
use Rattle.hosts.specs.Kinds.{kind_to_kind}
use Rattle.hosts.specs.declared.labels.LabelFunction.{LabelFunction}
use Rattle.hosts.specs.declared.labels.LabelFunction.TheVariants.{Length, StartsWith}

-- the functions by their codes
abbrev pub label_function : ℕ → Option LabelFunction
label_function c = cond (c == 0) (Some Length) (cond (c == 1) (Some StartsWith) None)

-- how many arguments: one or two
abbrev pub labels_takes : Option LabelFunction → ℕ → Bool
labels_takes (Some Length) n = n == 1
labels_takes (Some StartsWith) n = n == 2
labels_takes None n = false

-- the length of a Utf8 is a U64, nullable where its argument is
abbrev pub length_type : DType → Option DType
length_type t = kind_to_kind kind.Utf8 kind.U64 t

-- the test of two Utf8 is a Bool, nullable where an argument is
abbrev pub starts_type : DType → DType → Option DType
starts_type t u =
    cond (same_kind t.kind kind.Utf8 && same_kind u.kind kind.Utf8)
    (Some (type_of kind.Bool (t.nullable || u.nullable))) None

-- the type of a call
abbrev pub labels_types : Option LabelFunction → List DType → Option DType
labels_types (Some Length) ts = of_one None length_type ts
labels_types (Some StartsWith) ts = of_two None starts_type ts
labels_types None ts = None

-- the length of null is null, of a text its number of bytes; what is no text is the fault 0
abbrev pub length_reply : Value → Reply
length_reply null = plain Constant.null
length_reply (text bs) = plain (Constant.unsigned (length bs))
length_reply (bool b) = fails 0
length_reply (signed z) = fails 0
length_reply (unsigned n) = fails 0
length_reply (ext e z) = fails 0
length_reply (whole s) = fails 0

-- the first bytes begin with the second; all begin with none
abbrev pub begins : List ℕ → List ℕ → Bool
begins xs [] = true
begins [] (y ∷ ys) = false
begins (x ∷ xs) (y ∷ ys) = x == y && begins xs ys

-- bytes begin with others just where they are those and a rest
abbrev pub BeginsIsAFront : Type 0
BeginsIsAFront = (xs ys : List ℕ) → Decides (begins xs ys) ((rest : List ℕ) × (xs ≡ ys ++ rest))

-- the bytes begin with a second text; with null the reply is null, with what is no text the fault 0
abbrev pub begins_with : List ℕ → Value → Reply
begins_with bs null = plain Constant.null
begins_with bs (text front) = plain (Constant.bool (begins bs front))
begins_with bs (bool b) = fails 0
begins_with bs (signed z) = fails 0
begins_with bs (unsigned n) = fails 0
begins_with bs (ext e z) = fails 0
begins_with bs (whole s) = fails 0

-- a text begins with a second; null is null, what is no text the fault 0
abbrev pub starts_reply : Value → Value → Reply
starts_reply null w = plain Constant.null
starts_reply (text bs) w = begins_with bs w
starts_reply (bool b) w = fails 0
starts_reply (signed z) w = fails 0
starts_reply (unsigned n) w = fails 0
starts_reply (ext e z) w = fails 0
starts_reply (whole s) w = fails 0

-- what a call replies; a call that does not bind fails with 0
abbrev pub labels_gives : Option LabelFunction → List Value → Reply
labels_gives (Some Length) vs = of_one (fails 0) length_reply vs
labels_gives (Some StartsWith) vs = of_two (fails 0) starts_reply vs
labels_gives None vs = fails 0

-- no call is rewritten
abbrev pub labels_rule : Option LabelFunction → Answer
labels_rule f = nothing

-- the host
abbrev pub labels : Meaning
labels = record {
  has = λ c. is_some (label_function c);
  takes = λ c n. labels_takes (label_function c) n;
  types = λ c ts. labels_types (label_function c) ts;
  gives = λ c vs. labels_gives (label_function c) vs;
  rule = λ c ts ls. labels_rule (label_function c);
}
