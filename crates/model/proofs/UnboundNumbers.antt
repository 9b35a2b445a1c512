-- Unbound records by their numbers.
use Rattle.std.proofs.Common.{◌≡◌, ℕ, Bool, true, false, cond, eqb, List, [], ◌∷◌, map, length, Some, refl}
use Rattle.std.proofs.Common.{ap, ◌∙◌}
use lib.ListN.{length-map}
use Rattle.std.specs.Option.{option_map}
use Rattle.model.specs.Stores.{node_among}
use Rattle.vocabulary.specs.Nodes.{UnboundNode}
use Rattle.model.specs.Unbound.{seen}

-- read against a schema, the records are the same
pub seen_among : (q : ℕ) (xs : List UnboundNode) (n : ℕ)
    → node_among (map (seen q) xs) n ≡ option_map (seen q) (node_among xs n)
unfolding node_among
seen_among q [] n = refl
seen_among q (x ∷ xs) n =
    ap (λ (k : ℕ). cond (eqb n k) (Some (seen q x)) (node_among (map (seen q) xs) n)) (length-map xs (seen q))
    ∙ go (seen_among q xs n) (eqb n (length xs))
  where
    go : node_among (map (seen q) xs) n ≡ option_map (seen q) (node_among xs n)
        → (b : Bool)
        → cond b (Some (seen q x)) (node_among (map (seen q) xs) n)
        ≡ option_map (seen q) (cond b (Some x) (node_among xs n))
    go f true = refl
    go f false = f
