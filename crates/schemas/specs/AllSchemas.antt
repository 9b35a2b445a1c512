-- The eight schemas: what holds of them, which numbers there are, looking up, adding.
use Rattle.std.specs.Prelude.{◌≡◌, ℕ, true, cond, List, [], ◌∷◌, ◌++◌, length, Some, Ok, Err, Option, Result, nat_lt}
use Rattle.std.specs.Prelude.{slice_index_or, slice_set}
use Rattle.std.specs.List.{list_all}
use Rattle.vocabulary.specs.declared.refusals.MemoryRefusal.{MemoryRefusal}
use Rattle.vocabulary.specs.declared.refusals.MemoryRefusal.TheVariants.{NoSuchSchema}
use Rattle.vocabulary.specs.declared.refusals.BindingRefusal.TheVariants.{BadColumn}
use Rattle.vocabulary.specs.declared.refusals.Refusal.{Refusal}
use Rattle.vocabulary.specs.declared.refusals.Refusal.TheVariants.{Memory, Binding}
use Rattle.schemas.specs.declared.found.Found.{Found}
use Rattle.schemas.specs.Declarations.{takes, declared}
use Rattle.schemas.specs.Fields.{Field, found}

-- there are eight schemas, and the columns of each were declared one by one
abbrev pub AllDeclared : List (List Field) → Type 0
AllDeclared fss = (length fss ≡ 8) × (list_all declared fss ≡ true)

-- schemas are numbered 0 to 7
abbrev pub numbered : ℕ → Result ℕ MemoryRefusal
numbered s = cond (nat_lt s 8) (Ok s) (Err (NoSuchSchema s))

-- what a schema's number leads to: the answer for its columns, or the refusal of the number
abbrev pub in_schema : {A : Type 0} → ℕ → (List Field → Result A Refusal) → List (List Field) → Result A Refusal
in_schema s answer fss = cond (nat_lt s 8) (answer (slice_index_or fss s [])) (Err (Memory (NoSuchSchema s)))

-- looking a column up
abbrev pub sought : ℕ → List ℕ → List (List Field) → Result (Option Found) Refusal
sought s name fss = in_schema s (λ fs. Ok (found name fs)) fss

-- a column's place in its schema, behind the others; where it is not taken, the refusal names that place
abbrev pub placed : ℕ → Field → List Field → Result ℕ Refusal
placed s f fs = cond (takes fs f) (Ok (length fs)) (Err (Binding (BadColumn s (length fs))))

-- adding a column
abbrev pub added : ℕ → Field → List (List Field) → Result ℕ Refusal
added s f fss = in_schema s (placed s f) fss

-- the schemas after it: one more column, or what they were
abbrev pub after : Result ℕ Refusal → ℕ → Field → List (List Field) → List (List Field)
after (Ok place) s f fss = slice_set fss s (slice_index_or fss s [] ++ (f ∷ []))
after (Err e) s f fss = fss

-- what is found stays found when a column is added
abbrev pub FoundStaysFound : Type 0
FoundStaysFound =
    (fs : List Field) (f : Field) (name : List ℕ) (x : Found)
    → found name fs ≡ Some x → found name (fs ++ (f ∷ [])) ≡ Some x
