-- Reading and writing one schema of the table.
use Rattle.std.proofs.Common.{◌≡◌, ℕ, zero, suc, ◌<◌, true, false, List, [], ◌∷◌, ◌++◌, length, get_or, set, Ok, Err}
use Rattle.std.proofs.Common.{Result, refl, ap, ◌∙◌, arith}
use Rattle.std.proofs.lemmas.List.{get_or_default}
use Rattle.std.proofs.lemmas.Bool.{and_parts, and_from}
use Rattle.std.proofs.lemmas.Bool.Decides.{nat_tests}
use Rattle.std.specs.List.{list_all}
use Rattle.vocabulary.specs.declared.refusals.Refusal.{Refusal}
use Rattle.schemas.specs.AllSchemas.{numbered, in_schema, placed}
use Rattle.schemas.specs.Declarations.{takes, declared}
use Rattle.vocabulary.specs.declared.refusals.Refusal.TheVariants.{Binding}
use Rattle.vocabulary.specs.declared.refusals.BindingRefusal.TheVariants.{BadColumn}
use Rattle.schemas.specs.Fields.{Field}
use Rattle.schemas.proofs.Adding.{declared_push}

-- a schema written back with one column more has it behind the others
pub more_fields : (ss : List (List Field)) (s : ℕ) (d t : List Field) (f : Field) → s < length ss
    → t ≡ get_or ss s d ++ (f ∷ [])
    → set ss s t ≡ set ss s (get_or ss s [] ++ (f ∷ []))
more_fields ss s d t f h e = ap (set ss s) (e ∙ ap (λ fs. fs ++ (f ∷ [])) (get_or_default ss s d [] h))

-- a number that is answered is the one asked, and below 8
pub numbered_ok : (s at : ℕ) → Ok at ≡ numbered s → (at ≡ s) × (s < 8)
numbered_ok s at e = grind (arith, nat_tests)

-- what the eight schemas answer, from the one that a number leads to
pub answered : {A : Type 0} (s at : ℕ) (answer : List Field → Result A Refusal)
    (ss : List (List Field)) (d : List Field)
    → Ok at ≡ numbered s → length ss ≡ 8
    → answer (get_or ss at d) ≡ in_schema s answer ss
answered s at answer ss d e l =
    let n = numbered_ok s at e in
    let read = get_or_default ss s d [] (omega arith) in
    rw (n.0, read) (grind (arith, nat_tests))

-- a column that the schema does not take is refused with the place that it would have had
pub placed_refused : (s n : ℕ) (f : Field) (fs : List Field) (e : Refusal)
    → n ≡ length fs → false ≡ takes fs f → e ≡ Binding (BadColumn s n) → Err e ≡ placed s f fs
placed_refused s n f fs e counted free why = rw (why, counted, ← free)

-- a column that it takes has the place behind the others
pub placed_granted : (s n : ℕ) (f : Field) (fs : List Field)
    → n ≡ length fs → true ≡ takes fs f → Ok n ≡ placed s f fs
placed_granted s n f fs counted taken = rw (counted, ← taken)

-- of schemas that were all declared, each was
pub each_declared : (ss : List (List Field)) (s : ℕ) (d : List Field)
    → list_all declared ss ≡ true → s < length ss → declared (get_or ss s d) ≡ true
each_declared [] s d h l = absurd (omega arith)
each_declared (fs ∷ ss) zero d h l = (and_parts (declared fs) (list_all declared ss) h).0
each_declared (fs ∷ ss) (suc s) d h l =
    each_declared ss s d (and_parts (declared fs) (list_all declared ss) h).1 (omega arith)

-- with one of them written anew, they are still all declared
pub still_declared : (ss : List (List Field)) (s : ℕ) (t : List Field)
    → list_all declared ss ≡ true → declared t ≡ true → list_all declared (set ss s t) ≡ true
still_declared [] s t h k = refl
still_declared (fs ∷ ss) zero t h k =
    and_from (declared t) (list_all declared ss) k (and_parts (declared fs) (list_all declared ss) h).1
still_declared (fs ∷ ss) (suc s) t h k =
    let p = and_parts (declared fs) (list_all declared ss) h in
    and_from (declared fs) (list_all declared (set ss s t)) p.0 (still_declared ss s t p.1 k)

-- with one column more in one of them too
pub declared_with_more : (ss : List (List Field)) (s : ℕ) (d t : List Field) (f : Field)
    → list_all declared ss ≡ true → s < length ss → takes (get_or ss s d) f ≡ true → t ≡ get_or ss s d ++ (f ∷ [])
    → list_all declared (set ss s t) ≡ true
declared_with_more ss s d t f h l k e =
    still_declared ss s t h (rw e (declared_push (get_or ss s d) f (each_declared ss s d h l) k))
