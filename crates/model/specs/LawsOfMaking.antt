-- The laws of making and rebuilding.
use Rattle.std.specs.Prelude.{◌≡◌, ℕ, suc, ◌≤◌, min, ◌⊎◌, List, ◌++◌, reverse, length, take, Some, Ok, Err}
use Rattle.vocabulary.specs.declared.nodes.Function.TheVariants.{Root}
use Rattle.vocabulary.specs.Nodes.{BoundNode as Node}
use Rattle.vocabulary.specs.declared.refusals.Refusal.{Refusal}
use Rattle.meaning.specs.Columns.{Schemas}
use Rattle.meaning.specs.Hosts.{Meaning}
use Rattle.meaning.specs.Lists.{nth}
use Rattle.meaning.specs.Trees.{Expr, logic, node, Exprs, nil, cons}
use Rattle.model.specs.Stores.{Store, empty, node_at}
use Rattle.model.specs.Shapes.{shape, shape_tree, tree, trees}
use Rattle.model.specs.Wanted.{New, new_bytes, new_tree}
use Rattle.model.specs.Making.{make}
use Rattle.model.specs.Rebuilding.{with_children}
use Rattle.model.specs.Soundness.{Sound}
use Rattle.model.specs.Steps.{Step, perform, after, AllGiven}

-- the record of a number lies at that place where the nodes lie oldest first
abbrev pub RecordsLieForward : Type 0
RecordsLieForward = (s : Store) (n : ℕ) → node_at s n ≡ nth (reverse s.nodes) n

-- the arena as it is opened is sound
abbrev pub EmptyIsSound : Type 0
EmptyIsSound = (m : Meaning) (ss : Schemas) (records bytes : ℕ) → Sound m (empty ss records bytes)

-- making and rebuilding keep a store sound, whatever the host and the schemas
abbrev pub StepsKeepSound : Type 0
StepsKeepSound =
    (m : Meaning) (s : Store) → Sound m s
    → (cs : List Step) → AllGiven cs → Sound m (after m cs s)

-- a store after another: more nodes, and more text behind
pub record Grows (s later : Store) : Type 0 where
  pub newer : List Node
  pub more : List ℕ
  pub nodes : later.nodes ≡ newer ++ s.nodes
  pub text : later.text ≡ s.text ++ more
  pub schemas : later.schemas ≡ s.schemas
  pub records : later.records ≡ s.records
  pub bytes : later.bytes ≡ s.bytes

-- steps only add nodes, and text behind the text
abbrev pub StepsOnlyAdd : Type 0
StepsOnlyAdd = (m : Meaning) (s : Store) (cs : List Step) → Grows s (after m cs s)

-- what is made stays: no later step changes a node's record, its number or its tree
abbrev pub NodesStay : Type 0
NodesStay =
    (m : Meaning) (s : Store) → Sound m s
    → (cs : List Step) → AllGiven cs
    → (k : ℕ) (x : Node) → node_at s k ≡ Some x
    → (node_at (after m cs s) k ≡ Some x) × (tree (after m cs s) k ≡ tree s k)

-- a node's tree is its shape's, over the trees of its children
abbrev pub TreesByShapes : Type 0
TreesByShapes =
    (m : Meaning) (s : Store) → Sound m s
    → (k : ℕ) (x : Node) → node_at s k ≡ Some x
    → tree s k ≡ shape_tree (tree s) (shape s.text x)

-- a refusal leaves the store as it was
abbrev pub RefusalsChangeNothing : Type 0
RefusalsChangeNothing =
    (m : Meaning) (c : Step) (s : Store) (r : Refusal) → (perform m c s).0 ≡ Err r → (perform m c s).1 ≡ s

-- the new node has the next number, and its tree is the function asked for over the children's trees
pub record Made (m : Meaning) (w : New) (cs : List ℕ) (n : ℕ) (s later : Store) (k : ℕ) : Type 0 where
  pub number : k ≡ length s.nodes
  pub tree_is : tree later k ≡ new_tree (tree s) cs n w
  pub one_more : length later.nodes ≡ suc (length s.nodes)
  pub text_is : later.text ≡ s.text ++ new_bytes w

abbrev pub MadeAsAsked : Type 0
MadeAsAsked =
    (m : Meaning) (s : Store) → Sound m s
    → (w : New) (cs : List ℕ) (n k : ℕ) → min n 8 ≤ length cs
    → (make m w cs n s).0 ≡ Ok k → Made m w cs n s (make m w cs n s).1 k

-- a tree over other children; And and Or are of two
abbrev pub with_operands : Expr → Exprs → Expr
with_operands (logic o a b) nil = logic o a b
with_operands (logic o a b) (cons c nil) = logic o a b
with_operands (logic o a b) (cons c (cons d nil)) = logic o c d
with_operands (logic o a b) (cons c (cons d (cons e es))) = logic o a b
with_operands (node f es) ds = node f ds

-- a rebuilt node is the old one over the other children: a new node on the same text, or a Root itself
pub record Rebuilt (m : Meaning) (old : ℕ) (cs : List ℕ) (n : ℕ) (s later : Store) (k : ℕ) : Type 0 where
  pub record_of : Node
  pub found : node_at s old ≡ Some record_of
  pub tree_is : tree later k ≡ with_operands (tree s old) (trees s (take n cs))
  pub text_is : later.text ≡ s.text
  pub new_or_itself :
      ((k ≡ length s.nodes) × (length later.nodes ≡ suc (length s.nodes)))
      ⊎ ((record_of.function ≡ Root) × (n ≡ 0) × (k ≡ old) × (later ≡ s))

abbrev pub RebuiltOverOthers : Type 0
RebuiltOverOthers =
    (m : Meaning) (s : Store) → Sound m s
    → (old : ℕ) (cs : List ℕ) (n k : ℕ) → min n 8 ≤ length cs
    → (with_children m old cs n s).0 ≡ Ok k → Rebuilt m old cs n s (with_children m old cs n s).1 k
