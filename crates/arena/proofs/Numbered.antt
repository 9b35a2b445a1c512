-- Records by their numbers, in the order of making and with the newest first.
use Rattle.std.proofs.Common.{◌≡◌, ℕ, suc, ◌-◌, ◌<◌, ◌≤◌, Bool, true, false, eqb, ltb, List, [], ◌∷◌, reverse, length}
use Rattle.std.proofs.Common.{get_or, Some, None, sym, refl, ap, ◌∙◌, arith}
use Rattle.std.proofs.lemmas.List.{get_or-reverse, length-reverse}
use Rattle.std.proofs.lemmas.Bool.{eqb-true, eqb-false, ltb-true, ltb-false}
use Rattle.std.proofs.lemmas.Option.{slice_get-get_or, slice_get_past}
use Rattle.std.specs.List.{slice_get}
use Rattle.vocabulary.specs.Nodes.{BoundNode as Node}
use Rattle.model.specs.Stores.{node_among}
use Rattle.model.proofs.Numbers.{node_older, node_newest, node_past}

-- a number counts from the back where the newest is first
among_at : (ys : List Node) (n : ℕ) (d : Node) → n < length ys
    → node_among ys n ≡ Some (get_or ys (length ys - 1 - n) d)
among_at [] n d h = absurd (omega arith)
among_at (y ∷ ys) n d h = go (among_at ys n d) (eqb n (length ys)) refl
  where
    go : (n < length ys → node_among ys n ≡ Some (get_or ys (length ys - 1 - n) d))
        → (b : Bool) → eqb n (length ys) ≡ b
        → node_among (y ∷ ys) n ≡ Some (get_or (y ∷ ys) (suc (length ys) - 1 - n) d)
    go f true e =
        let i : n ≡ length ys = eqb-true n (length ys) e in
        let z : suc (length ys) - 1 - n ≡ 0 = omega arith in
        node_newest y ys n i ∙ ap (λ (k : ℕ). Some (get_or (y ∷ ys) k d)) (sym z)
    go f false e =
        let w = eqb-false n (length ys) e in
        let l : n < length ys = omega (arith, w) in
        let z : suc (length ys) - 1 - n ≡ suc (length ys - 1 - n) = omega arith in
        node_older y ys n l ∙ f l ∙ ap (λ (k : ℕ). Some (get_or (y ∷ ys) k d)) (sym z)

-- the record of a number, in the order of making
pub node_made : (xs : List Node) (n : ℕ) (d : Node) → n < length xs → node_among (reverse xs) n ≡ Some (get_or xs n d)
node_made xs n d h =
    let l = length-reverse xs in
    let z : length xs - 1 - (length (reverse xs) - 1 - n) ≡ n = omega arith in
    among_at (reverse xs) n d (omega arith)
    ∙ ap Some (get_or-reverse xs (length (reverse xs) - 1 - n) d (omega arith) ∙ ap (λ (k : ℕ). get_or xs k d) z)

-- a number past the records has none
pub node_not_made : (xs : List Node) (n : ℕ) → length xs ≤ n → node_among (reverse xs) n ≡ None
node_not_made xs n h = let l = length-reverse xs in node_past (reverse xs) n (omega arith)

-- the record at a place is the record of that number
pub node_got : (xs : List Node) (n : ℕ) → slice_get xs n ≡ node_among (reverse xs) n
node_got [] n = sym (node_not_made [] n (omega arith))
node_got (y ∷ ys) n = go (ltb n (length (y ∷ ys))) refl
  where
    go : (b : Bool) → ltb n (length (y ∷ ys)) ≡ b → slice_get (y ∷ ys) n ≡ node_among (reverse (y ∷ ys)) n
    go true e =
        let l = ltb-true n (length (y ∷ ys)) e in
        slice_get-get_or (y ∷ ys) n y l ∙ sym (node_made (y ∷ ys) n y l)
    go false e =
        let l = ltb-false n (length (y ∷ ys)) e in
        slice_get_past (y ∷ ys) n l ∙ sym (node_not_made (y ∷ ys) n l)
