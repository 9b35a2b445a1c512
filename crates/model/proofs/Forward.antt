-- The records as they lie oldest first.
use Rattle.std.proofs.Common.{◌≡◌, ℕ, zero, suc, Bool, true, false, cond, eqb, List, [], ◌∷◌, ◌++◌, reverse, length}
use Rattle.std.proofs.Common.{Some, sym, refl, ap, ◌∙◌, arith}
use Rattle.std.proofs.lemmas.List.{reverse-append, length-reverse}
use Rattle.std.proofs.lemmas.Bool.{eqb-true, eqb-false}
use Rattle.vocabulary.specs.Nodes.{BoundNode as Node}
use Rattle.meaning.specs.Lists.{nth}
use Rattle.model.specs.Stores.{node_among}
use Rattle.model.specs.LawsOfMaking.{RecordsLieForward}

nth_last : (ys : List Node) (x : Node) (n : ℕ) → n ≡ length ys → nth (ys ++ (x ∷ [])) n ≡ Some x
nth_last [] x zero e = refl
nth_last [] x (suc n) e = absurd (omega arith)
nth_last (y ∷ ys) x zero e = absurd (omega arith)
nth_last (y ∷ ys) x (suc n) e = nth_last ys x n (omega arith)

nth_other : (ys : List Node) (x : Node) (n : ℕ) → (n ≡ length ys → ⊥) → nth (ys ++ (x ∷ [])) n ≡ nth ys n
nth_other [] x zero h = absurd (h refl)
nth_other [] x (suc n) h = refl
nth_other (y ∷ ys) x zero h = refl
nth_other (y ∷ ys) x (suc n) h = nth_other ys x n (λ e. h (ap suc e))

forward : (xs : List Node) (n : ℕ) → node_among xs n ≡ nth (reverse xs) n
unfolding node_among
forward [] n = refl
forward (x ∷ xs) n =
    go (forward xs n) (eqb n (length xs)) refl ∙ ap (λ (z : List Node). nth z n) (sym (reverse-append (x ∷ []) xs))
  where
    go : node_among xs n ≡ nth (reverse xs) n → (b : Bool) → eqb n (length xs) ≡ b
        → cond b (Some x) (node_among xs n) ≡ nth (reverse xs ++ (x ∷ [])) n
    go f true e =
        let h : n ≡ length (reverse xs) = eqb-true n (length xs) e ∙ sym (length-reverse xs) in
        sym (nth_last (reverse xs) x n h)
    go f false e =
        f ∙ sym (nth_other (reverse xs) x n (λ i. eqb-false n (length xs) e (i ∙ length-reverse xs)))

pub records_lie_forward : RecordsLieForward
records_lie_forward s n = forward s.nodes n
