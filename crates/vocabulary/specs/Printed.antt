-- How kinds, types, layers and refusals are printed.
use Rattle.std.specs.Prelude.{ℕ, ◌-◌, cond, List, [], ◌∷◌, ◌++◌, get_or, codes, decimal}
use Rattle.vocabulary.specs.declared.refusals.Layer.{Layer}
use Rattle.vocabulary.specs.declared.refusals.Layer.TheVariants as layer
use Rattle.vocabulary.specs.declared.refusals.Place.{Place}
use Rattle.vocabulary.specs.declared.refusals.Place.TheVariants.{Nothing, SchemaColumn, Asked, Node, Column}
use Rattle.vocabulary.specs.declared.refusals.Place.TheVariants.{NodeCode}
use Rattle.vocabulary.specs.declared.refusals.Refusal.{Refusal}
use Rattle.vocabulary.specs.declared.types.DType.{DType}
use Rattle.vocabulary.specs.declared.types.Kind.{Kind}
use Rattle.vocabulary.specs.declared.types.Kind.TheVariants as k
use Rattle.vocabulary.specs.Refusals.{number_of, layer_of, place_of}

-- a kind by its name, with the number that it carries in brackets
abbrev pub kind_name : Kind → List ℕ
kind_name k.Bool = codes "Bool"
kind_name k.I64 = codes "I64"
kind_name k.U64 = codes "U64"
kind_name k.Utf8 = codes "Utf8"
kind_name (k.Extension e) = codes "Extension(" ++ (decimal e ++ codes ")")
kind_name (k.Row s) = codes "Row(" ++ (decimal s ++ codes ")")

-- a type by its kind, with a question mark behind it if it is nullable
abbrev pub type_name : DType → List ℕ
type_name t = kind_name t.kind ++ cond t.nullable (codes "?") []

abbrev pub layer_name : Layer → List ℕ
layer_name layer.Memory = codes "memory"
layer_name layer.Binding = codes "binding"
layer_name layer.Walk = codes "walk"
layer_name layer.Rules = codes "rules"
layer_name layer.Evaluation = codes "evaluation"

-- the causes in the order of the refusals' numbers
abbrev pub causes : List (List ℕ)
causes =
    codes "memory outside its limits"
    ∷ codes "a column breaks a rule"
    ∷ codes "no such node or schema"
    ∷ codes "no such host code"
    ∷ codes "wrong child count"
    ∷ codes "types or a name do not bind, or a null of a type that is not nullable"
    ∷ codes "too deep"
    ∷ codes "too large"
    ∷ codes "records full"
    ∷ codes "text full"
    ∷ codes "work or results memory short"
    ∷ codes "a rewrite's path over 256 nodes, or over 65535 visits on the way down"
    ∷ codes "a 101st changing round"
    ∷ codes "a root of another schema, or a row value that does not fit"
    ∷ codes "arithmetic fault"
    ∷ codes "unlike types compared"
    ∷ codes "host fault"
    ∷ codes "visitor's or rewriter's fault"
    ∷ []

-- the cause of a number, in words
abbrev pub cause_words : ℕ → List ℕ
cause_words n = get_or causes (n - 1) []

-- what a refusal names, in words
abbrev pub place_words : Place → List ℕ
place_words Nothing = []
place_words (SchemaColumn s c) = codes "schema " ++ (decimal s ++ (codes ", column " ++ decimal c))
place_words (Asked n) = codes "asked " ++ decimal n
place_words (Node n) = codes "node " ++ decimal n
place_words (Column c) = codes "column " ++ decimal c
place_words (NodeCode n c) = codes "node " ++ (decimal n ++ (codes ", code " ++ decimal c))

-- a cause, and behind a comma what it names, if it names anything
abbrev pub with_place : List ℕ → Place → List ℕ
with_place cause Nothing = cause
with_place cause p = cause ++ (codes ", " ++ place_words p)

-- why a call was refused: the cause of its number, and what it names
abbrev pub why_words : Refusal → List ℕ
why_words r = with_place (cause_words (number_of r)) (place_of r)

-- a refusal by its number, its layer in brackets, and why
abbrev pub refusal_words : Refusal → List ℕ
refusal_words r =
    codes "refused "
    ++ (decimal (number_of r) ++ (codes " (" ++ (layer_name (layer_of r) ++ (codes "): " ++ why_words r))))
