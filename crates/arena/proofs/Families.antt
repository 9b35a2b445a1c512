-- What children come to, by their records.
use Rattle.std.proofs.Common.{◌≡◌, ℕ, suc, ◌+◌, max, List, [], ◌∷◌, ◌++◌, length, Ok, sym, ap, ◌∙◌}
use Rattle.std.proofs.Common.{append_assoc, append-nil, arith}
use Rattle.vocabulary.specs.Nodes.{BoundNode as Node}
use Rattle.model.specs.Making.{types_of, deepest, total_size, looked_up}
use Rattle.model.specs.Stores.{Store}
use Rattle.model.proofs.Children.{led, ok_same}
use Rattle.arena.specs.declared.bounds.Kin.{Kin}
use Rattle.arena.specs.Surveying.{with_child, with_more}

pub more_depth : (k : Kin) (xs : List Node) → (with_more k xs).depth ≡ max k.depth (deepest xs)
more_depth k [] = omega arith
more_depth k (x ∷ xs) = let h = more_depth (with_child k x) xs in omega (arith, h)

pub more_size : (k : Kin) (xs : List Node) → (with_more k xs).size ≡ k.size + total_size xs
more_size k [] = omega arith
more_size k (x ∷ xs) = let h = more_size (with_child k x) xs in omega (arith, h)

-- the types that were gathered are those of the records
pub more_types : (k : Kin) (xs : List Node) → (with_more k xs).types ≡ k.types ++ types_of xs
more_types k [] = sym (append-nil k.types)
more_types k (x ∷ xs) =
    more_types (with_child k x) xs ∙ append_assoc k.types (x.dtype ∷ []) (types_of xs)

-- as many records as numbers
pub looked_length : (s : Store) (ks : List ℕ) (xs : List Node) → looked_up s ks ≡ Ok xs → length xs ≡ length ks
looked_length s [] xs e = ap length (sym (ok_same e))
looked_length s (k ∷ ks) xs e =
    let l = led s k ks xs e in
    ap length l.whole ∙ ap suc (looked_length s ks l.rest l.others)
