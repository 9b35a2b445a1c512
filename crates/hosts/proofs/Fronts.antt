-- When bytes begin with others.
use Rattle.std.proofs.Common.{◌≡◌, ℕ, eqb, List, [], ◌∷◌, length, drop, refl, sym, arith}
use Rattle.std.proofs.lemmas.Bool.Decides.{nat_tests, Decides-eqb}
use Rattle.std.proofs.lemmas.Slice.Eq.{starts_is}
use Rattle.std.specs.List.{starts_with}
use Rattle.hosts.specs.Labels.{begins, BeginsIsAFront}

-- the library's test
pub begun : (xs ys : List ℕ) → starts_with eqb xs ys ≡ begins xs ys
begun xs [] = refl
begun [] (y ∷ ys) = refl
begun (x ∷ xs) (y ∷ ys) = grind (arith, nat_tests, begun xs ys)

pub begins_is_a_front : BeginsIsAFront
begins_is_a_front xs ys =
    let h = starts_is Decides-eqb xs ys (begins xs ys) (sym (begun xs ys)) in
    (λ p. (drop (length ys) xs, h.0 p), λ (rest, e). h.1 rest e)
