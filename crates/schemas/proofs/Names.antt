-- Each column of a schema is found under its own name, and stays found.
use Rattle.std.proofs.Common.{◌≡◌, ℕ, zero, suc, ◌+◌, ◌<◌, ◌≤◌, Bool, true, false, cond, List, [], ◌∷◌, ◌++◌, length}
use Rattle.std.proofs.Common.{get_or, is_some, Some, None, Option, sym, refl, ap, ◌∙◌, append_assoc, arith}
use Rattle.std.proofs.Common.{length-append}
use Rattle.std.specs.Str.{bytes_eq}
use Rattle.std.proofs.lemmas.Bool.{and_parts, cond-true, cond-false}
use Rattle.std.proofs.lemmas.Bool.Decides.{nat_tests}
use Rattle.schemas.specs.declared.found.Found.{Found}
use Rattle.schemas.specs.AllSchemas.{FoundStaysFound}
use Rattle.schemas.specs.Declarations.{takes, declared_after, NamesTellColumns}
use Rattle.schemas.specs.Fields.{Field, found, found_from}
use Rattle.schemas.proofs.Adding.{taken_fits}

-- a name is the same as itself
same_itself : (n : List ℕ) → bytes_eq n n ≡ true
same_itself [] = refl
same_itself (b ∷ bs) = let rest = same_itself bs in grind (arith, nat_tests)

none_parts : {A : Type 0} (b : Bool) (x : A) (o : Option A) → cond b (Some x) o ≡ None → (b ≡ false) × (o ≡ None)
none_parts true x o h = absurd (grind arith)
none_parts false x o h = (refl, h)

some_step : {A : Type 0} (b : Bool) (x y : A) (o p : Option A)
    → (o ≡ Some y → p ≡ Some y) → cond b (Some x) o ≡ Some y → cond b (Some x) p ≡ Some y
some_step true x y o p more h = h
some_step false x y o p more h = more h

-- past columns that do not have the name
past : (k : ℕ) (name : List ℕ) (before rest : List Field)
    → found_from k name before ≡ None
    → found_from k name (before ++ rest) ≡ found_from (k + length before) name rest
past k name [] rest h = ap (λ n. found_from n name rest) (omega arith)
past k name (f ∷ before) rest h =
    let other = none_parts (bytes_eq f.name name) _ (found_from (k + 1) name before) h in
    let count : k + 1 + length before ≡ k + suc (length before) = omega arith in
    cond-false (bytes_eq f.name name) _ _ other.0
    ∙ past (k + 1) name before rest other.1
    ∙ ap (λ n. found_from n name rest) count

-- what is found stays found when columns are added behind
stays : (k : ℕ) (name : List ℕ) (fs more : List Field) (x : Found)
    → found_from k name fs ≡ Some x → found_from k name (fs ++ more) ≡ Some x
stays k name [] more x h = absurd (grind arith)
stays k name (f ∷ fs) more x h =
    some_step (bytes_eq f.name name) _ x (found_from (k + 1) name fs) (found_from (k + 1) name (fs ++ more))
    (stays (k + 1) name fs more x) h

pub found_stays_found : FoundStaysFound
found_stays_found fs f name x h = stays 0 name fs (f ∷ []) x h

-- a column that is taken has a name that none before it has
new_name : (fs : List Field) (f : Field) → takes fs f ≡ true → found f.name fs ≡ None
new_name fs f h = none_since (found f.name fs) (grind (arith, nat_tests))
  where
    none_since : (o : Option Found) → is_some o ≡ false → o ≡ None
    none_since None e = refl
    none_since (Some x) e = absurd (grind arith)

-- the column at i of those behind `before` is found at its place
each_found : (before fs : List Field) → declared_after before fs ≡ true
    → (i : ℕ) (d : Field) → i < length fs
    → found (get_or fs i d).name (before ++ fs)
    ≡ Some (record { place = length before + i; dtype = (get_or fs i d).dtype })
each_found before [] h i d l = absurd (omega arith)
each_found before (f ∷ fs) h zero d l =
    let p = and_parts (takes before f) (declared_after (before ++ (f ∷ [])) fs) h in
    let count : 0 + length before ≡ length before + 0 = omega arith in
    past 0 f.name before (f ∷ fs) (new_name before f p.0)
    ∙ cond-true (bytes_eq f.name f.name) _ _ (same_itself f.name)
    ∙ ap (λ n. Some (record { place = n; dtype = f.dtype })) count
each_found before (f ∷ fs) h (suc i) d l =
    let p = and_parts (takes before f) (declared_after (before ++ (f ∷ [])) fs) h in
    let count : length (before ++ (f ∷ [])) + i ≡ length before + suc i = simp length-append (omega arith) in
    ap (found (get_or fs i d).name) (sym (append_assoc before (f ∷ []) fs))
    ∙ each_found (before ++ (f ∷ [])) fs p.1 i d (omega arith)
    ∙ ap (λ n. Some (record { place = n; dtype = (get_or fs i d).dtype })) count

-- no more than 32 are taken
at_most : (before fs : List Field) → declared_after before fs ≡ true → length before ≤ 32
    → length before + length fs ≤ 32
at_most before [] h l = omega arith
at_most before (f ∷ fs) h l =
    let p = and_parts (takes before f) (declared_after (before ++ (f ∷ [])) fs) h in
    let room = (taken_fits before f p.0).1 in
    let counted = length-append before (f ∷ []) in
    omega (arith, at_most (before ++ (f ∷ [])) fs p.1 (omega arith))

pub names_tell_columns : NamesTellColumns
names_tell_columns fs h = (omega (arith, at_most [] fs h (omega arith)), found_here)
  where
    found_here : (i : ℕ) (d : Field) → i < length fs
        → found (get_or fs i d).name fs ≡ Some (record { place = i; dtype = (get_or fs i d).dtype })
    found_here i d l =
        let count : 0 + i ≡ i = omega arith in
        each_found [] fs h i d l ∙ ap (λ n. Some (record { place = n; dtype = (get_or fs i d).dtype })) count
