-- Types are alike just where their kinds are equal.
use Rattle.std.proofs.Common.{◌≡◌, ℕ, zero, suc, true, eqb, sym, refl, ap, ◌∙◌}
use Rattle.std.proofs.lemmas.Bool.{and_parts, and_from, eqb-true, eq-eqb}
use Rattle.vocabulary.specs.declared.types.Kind.{Kind}
use Rattle.vocabulary.specs.declared.types.Kind.TheVariants as k
use Rattle.vocabulary.specs.Types.{case_of, carried, same_kind, AlikeIsOneKind}

-- the kind of a case and a number
kind_at : ℕ → ℕ → Kind
kind_at zero n = k.Bool
kind_at (suc zero) n = k.I64
kind_at (suc (suc zero)) n = k.U64
kind_at (suc (suc (suc zero))) n = k.Utf8
kind_at (suc (suc (suc (suc zero)))) n = k.Extension n
kind_at (suc (suc (suc (suc (suc i))))) n = k.Row n

kind_again : (a : Kind) → kind_at (case_of a) (carried a) ≡ a
unfolding kind_at
kind_again k.Bool = refl
kind_again k.I64 = refl
kind_again k.U64 = refl
kind_again k.Utf8 = refl
kind_again (k.Extension e) = refl
kind_again (k.Row s) = refl

same_kind_equal : (a b : Kind) → same_kind a b ≡ true → a ≡ b
same_kind_equal a b h =
    let p = and_parts (eqb (case_of a) (case_of b)) (eqb (carried a) (carried b)) h in
    sym (kind_again a)
    ∙ ap (λ i. kind_at i (carried a)) (eqb-true (case_of a) (case_of b) p.0)
    ∙ ap (kind_at (case_of b)) (eqb-true (carried a) (carried b) p.1)
    ∙ kind_again b

equal_same_kind : (a b : Kind) → a ≡ b → same_kind a b ≡ true
equal_same_kind a b e =
    and_from (eqb (case_of a) (case_of b)) (eqb (carried a) (carried b))
    (eq-eqb (case_of a) (case_of b) (ap case_of e)) (eq-eqb (carried a) (carried b) (ap carried e))

pub alike_is_one_kind : AlikeIsOneKind
alike_is_one_kind t u = (same_kind_equal t.kind u.kind, equal_same_kind t.kind u.kind)
