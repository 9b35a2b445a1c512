-- Adding a column behind the others keeps a schema declared one by one.
use Rattle.std.proofs.Common.{◌≡◌, ℕ, ◌+◌, ◌-◌, ◌<◌, ◌≤◌, true, List, [], ◌∷◌, ◌++◌, length, take, drop, replicate}
use Rattle.std.proofs.Common.{set, sym, refl, ap}
use Rattle.std.proofs.Common.{◌∙◌, append_assoc, append-nil, arith}
use Rattle.std.proofs.lemmas.List.{take_all, take_more_set, length-take-le, length-set, drop-set-lt, drop-drop}
use Rattle.std.proofs.lemmas.List.{drop-replicate}
use Rattle.std.proofs.lemmas.Bool.{and_parts, and_from}
use Rattle.std.proofs.lemmas.Bool.Decides.{nat_tests}
use Rattle.schemas.specs.Declarations.{takes, declared, declared_after}
use Rattle.vocabulary.specs.declared.types.DType.{DType}
use Rattle.schemas.specs.Fields.{Field, field}
use Rattle.schemas.specs.Tables.{columns_of, unused, DeclaredOneByOne}
use Rattle.schemas.specs.declared.tables.Schema.TheInside.{Inside}

declared_more : (before fs : List Field) (f : Field)
    → declared_after before fs ≡ true → takes (before ++ fs) f ≡ true
    → declared_after before (fs ++ (f ∷ [])) ≡ true
declared_more before [] f h k = and_from (takes before f) true (rw append-nil at k) refl
declared_more before (g ∷ fs) f h k =
    let p = and_parts (takes before g) (declared_after (before ++ (g ∷ [])) fs) h in
    and_from (takes before g) (declared_after (before ++ (g ∷ [])) (fs ++ (f ∷ []))) p.0
    (declared_more (before ++ (g ∷ [])) fs f p.1 (rw append_assoc k))

-- a column that is taken keeps the columns declared
pub declared_push : (fs : List Field) (f : Field)
    → declared fs ≡ true → takes fs f ≡ true → declared (fs ++ (f ∷ [])) ≡ true
declared_push fs f h k = declared_more [] fs f h k

-- a column that is taken has a name that fits, and there is room for it
pub taken_fits : (fs : List Field) (f : Field)
    → takes fs f ≡ true → (length f.name ≤ 32) × (length fs < 32)
taken_fits fs f h = grind (arith, nat_tests)

-- a name that is taken is kept whole
pub whole_name : (fs : List Field) (name : List ℕ) (t : DType) → takes fs (field name t) ≡ true
    → field (take 32 name) t ≡ field name t
whole_name fs name t h = ap (λ n. field n t) (take_all 32 name (taken_fits fs (field name t) h).0)

-- a schema with the column f behind the others, which it takes
pub pushed : (s : Inside) (f : Field) → DeclaredOneByOne s → takes (columns_of s) f ≡ true
    → DeclaredOneByOne (record { columns = set s.columns s.count f; count = s.count + 1 })
pushed s f h k =
    let counted = length-take-le s.count s.columns (omega (arith, h.whole, h.few)) in
    let room : s.count < 32 = omega (arith, (taken_fits (columns_of s) f k).1, counted) in
    record {
      whole = length-set s.columns s.count f ∙ h.whole;
      few = omega arith;
      behind =
          drop-set-lt (s.count + 1) s.columns s.count f (omega arith)
          ∙ sym (drop-drop 1 s.count s.columns)
          ∙ ap (drop 1) h.behind
          ∙ drop-replicate 1 (32 - s.count) unused
          ∙ ap (λ n. replicate n unused) (omega arith);
      sound =
          rw (take_more_set s.columns s.count f (omega (arith, h.whole)))
          (declared_push (columns_of s) f h.sound k);
    }
