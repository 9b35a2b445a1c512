-- What calls do that make or rebuild a node over a slice of children, whatever its length: all of the children count.
use Rattle.std.specs.Prelude.{◌≡◌, ℕ, ◌↔◌, List, length, Some, Ok, Err, Result}
use Rattle.vocabulary.specs.Nodes.{BoundNode as Node, UnboundNode}
use Rattle.vocabulary.specs.declared.refusals.Refusal.{Refusal}
use Rattle.meaning.specs.Hosts.{Meaning}
use Rattle.model.specs.LawsOfMaking.{Made, Rebuilt}
use Rattle.model.specs.LawsOfRefusing.{RefusedNew, RefusedOld}
use Rattle.model.specs.LawsOfUnbound.{MadeUnbound, RebuiltUnbound}
use Rattle.model.specs.Making.{make}
use Rattle.model.specs.Rebuilding.{with_children}
use Rattle.model.specs.Shapes.{tree}
use Rattle.model.specs.Soundness.{Sound}
use Rattle.model.specs.Stores.{Store, node_at}
use Rattle.model.specs.Unbound.{UnboundStore, unbound_at, tree_for}
use Rattle.model.specs.UnboundMaking.{make_unbound, unbound_with_children}
use Rattle.model.specs.UnboundSoundness.{SoundUnbound}
use Rattle.model.specs.Wanted.{New}

-- a call on a sound store that was done: what it grants, and exactly the causes for which it refuses; the store stays
-- sound, and older nodes keep their records and their trees
pub record Done (m : Meaning) (s : Store) (Granted : Store → ℕ → Type 0) (Cause : Refusal → Type 0)
    (done : Result ℕ Refusal × Store) : Type 0 where
  pub granted : (k : ℕ) → done.0 ≡ Ok k → Granted done.1 k
  pub refused : (r : Refusal) → (done.0 ≡ Err r) ↔ Cause r
  pub sound : Sound m done.1
  pub stay :
      (k : ℕ) (x : Node) → node_at s k ≡ Some x
      → (node_at done.1 k ≡ Some x) × (tree done.1 k ≡ tree s k)

-- making: the function asked for, over all of the children
abbrev pub CallsMake : Type 0
CallsMake =
    (m : Meaning) (s : Store) → Sound m s
    → (w : New) (cs : List ℕ)
    → Done m s (Made m w cs (length cs) s) (RefusedNew m s w cs (length cs)) (make m w cs (length cs) s)

-- rebuilding: the old function, over all of the children
abbrev pub CallsRebuild : Type 0
CallsRebuild =
    (m : Meaning) (s : Store) → Sound m s
    → (k : ℕ) (cs : List ℕ)
    → Done m s (Rebuilt m k cs (length cs) s) (RefusedOld m s k cs (length cs)) (with_children m k cs (length cs) s)

-- a call on a sound unbound arena that was done
pub record DoneUnbound (u : UnboundStore) (Granted : UnboundStore → ℕ → Type 0)
    (done : Result ℕ Refusal × UnboundStore) : Type 0 where
  pub granted : (k : ℕ) → done.0 ≡ Ok k → Granted done.1 k
  pub refused : (r : Refusal) → done.0 ≡ Err r → done.1 ≡ u
  pub sound : SoundUnbound done.1
  pub stay :
      (k : ℕ) (x : UnboundNode) → unbound_at u k ≡ Some x
      → (unbound_at done.1 k ≡ Some x) × ((q : ℕ) → tree_for q done.1 k ≡ tree_for q u k)

-- making an unbound node
abbrev pub CallsMakeUnbound : Type 0
CallsMakeUnbound =
    (u : UnboundStore) → SoundUnbound u
    → (w : New) (cs : List ℕ) → DoneUnbound u (MadeUnbound w cs (length cs) u) (make_unbound w cs (length cs) u)

-- rebuilding an unbound node
abbrev pub CallsRebuildUnbound : Type 0
CallsRebuildUnbound =
    (u : UnboundStore) → SoundUnbound u
    → (k : ℕ) (cs : List ℕ)
    → DoneUnbound u (RebuiltUnbound k cs (length cs) u) (unbound_with_children k cs (length cs) u)
