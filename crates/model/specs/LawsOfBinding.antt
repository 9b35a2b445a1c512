-- The laws of binding.
use Rattle.std.specs.Prelude.{◌≡◌, ℕ, suc, ◌+◌, List, length, Some, Ok}
use Rattle.vocabulary.specs.Nodes.{BoundNode as Node}
use Rattle.meaning.specs.Hosts.{Meaning}
use Rattle.meaning.specs.Trees.{Expr, size}
use Rattle.meaning.specs.Typing.{typed}
use Rattle.model.specs.Stores.{Store, node_at}
use Rattle.model.specs.Shapes.{tree}
use Rattle.model.specs.Wanted.{New}
use Rattle.model.specs.Making.{make}
use Rattle.model.specs.Soundness.{Sound}
use Rattle.model.specs.LawsOfMaking.{Grows}
use Rattle.model.specs.LawsOfRefusing.{SchemaThere}
use Rattle.model.specs.Unbound.{UnboundStore, tree_for}
use Rattle.model.specs.UnboundSoundness.{SoundUnbound}
use Rattle.model.specs.BindingTrees.{make_at, bind}

-- a law of granted bindings of a sound unbound arena into a sound store: of the tree, both stores and the answer
abbrev pub OfGranted : (Meaning → Expr → Store → Store → ℕ → Type 0) → Type 0
OfGranted P =
    (m : Meaning) (u : UnboundStore) → SoundUnbound u
    → (s : Store) → Sound m s
    → (n q work k : ℕ) → (bind m u n q work s).0 ≡ Ok k
    → P m (tree_for q u n) s (bind m u n q work s).1 k

-- the bound node's tree is the unbound one against the schema, and its record has the type of that tree
pub record BoundTree (m : Meaning) (e : Expr) (s later : Store) (k : ℕ) : Type 0 where
  pub tree_is : tree later k ≡ e
  pub record_of : Node
  pub found : node_at later k ≡ Some record_of
  pub binds : typed m s.schemas e ≡ Some record_of.dtype

abbrev pub BoundAsAsked : Type 0
BoundAsAsked = OfGranted BoundTree

-- the store stays sound, and binding only adds nodes: older nodes keep record, number and tree
pub record KeptStore (m : Meaning) (e : Expr) (s later : Store) (k : ℕ) : Type 0 where
  pub sound : Sound m later
  pub grows : Grows s later
  pub stay :
      (j : ℕ) (x : Node) → node_at s j ≡ Some x
      → (node_at later j ≡ Some x) × (tree later j ≡ tree s j)

abbrev pub BindingKeepsTheStore : Type 0
BindingKeepsTheStore = OfGranted KeptStore

-- there is one new node for each place of the tree, and the answer is the last of them
pub record EachPlace (m : Meaning) (e : Expr) (s later : Store) (k : ℕ) : Type 0 where
  pub as_many : length later.nodes ≡ length s.nodes + size e
  pub last : suc k ≡ length later.nodes

abbrev pub OneNodeForEachPlace : Type 0
OneNodeForEachPlace = OfGranted EachPlace

-- each node of the tree is made as making makes one, but for the place that a refusal names
abbrev pub BindingMakesAsMaking : Type 0
BindingMakesAsMaking =
    (m : Meaning) (w : New) (cs : List ℕ) (n : ℕ) (s : Store) → SchemaThere w
    → make_at m 65535 w cs n s ≡ make m w cs n s
