-- Records stand without their types as they do with them.
use Rattle.std.proofs.Common.{◌≡◌, ℕ, true, List, [], ◌∷◌, map, Some, None, Ok, Err, Option, Result, refl, ◌∙◌}
use Rattle.std.specs.Option.{option_map}
use Rattle.std.specs.Result.{result_map_both}
use Rattle.vocabulary.specs.Nodes.{BoundNode as Node, UnboundNode, untyped}
use Rattle.model.specs.Making.{with_record, deepest, total_size}
use Rattle.model.specs.Shapes.{kids}
use Rattle.model.specs.Stores.{node_among}
use Rattle.arena.specs.Standing.{found_among, measures, all_stand}
use Rattle.arena.proofs.AsUnbound.{among_untyped}

-- records that were found, without their types
abbrev without_types : Result (List Node) ℕ → Result (List UnboundNode) ℕ
without_types r = result_map_both (map untyped) (λ k. k) r

-- the same numbers find them
found_untyped : (xs : List Node) (ks : List ℕ)
    → found_among (map untyped xs) ks ≡ without_types (found_among xs ks)
found_untyped xs [] = refl
found_untyped xs (k ∷ ks) =
    rw (among_untyped xs k, found_untyped xs ks) (go (node_among xs k) (found_among xs ks))
  where
    go : (o : Option Node) (r : Result (List Node) ℕ)
        → with_record k (option_map untyped o) (without_types r) ≡ without_types (with_record k o r)
    go None r = refl
    go (Some x) (Ok ys) = refl
    go (Some x) (Err j) = refl

deepest_untyped : (ys : List Node) → deepest (map untyped ys) ≡ deepest ys
deepest_untyped [] = refl
deepest_untyped (y ∷ ys) = rw (deepest_untyped ys)

size_untyped : (ys : List Node) → total_size (map untyped ys) ≡ total_size ys
size_untyped [] = refl
size_untyped (y ∷ ys) = rw (size_untyped ys)

-- and a record measures the same over them
measures_untyped : (x : Node) (r : Result (List Node) ℕ) → measures (untyped x) (without_types r) ≡ measures x r
measures_untyped x (Err k) = refl
measures_untyped x (Ok ys) = rw (deepest_untyped ys, size_untyped ys)

pub all_stand_untyped : (len : ℕ) (xs : List Node) → all_stand len xs ≡ true → all_stand len (map untyped xs) ≡ true
all_stand_untyped len xs h = same len xs ∙ h
  where
    same : (n : ℕ) (ys : List Node) → all_stand n (map untyped ys) ≡ all_stand n ys
    same n [] = refl
    same n (x ∷ ys) =
        rw (found_untyped ys (kids x), measures_untyped x (found_among ys (kids x)), same n ys)
