-- The laws of making and rebuilding unbound nodes.
use Rattle.std.specs.Prelude.{◌≡◌, ℕ, suc, ◌≤◌, min, ◌⊎◌, List, ◌++◌, length, take, Some, Ok, Err}
use Rattle.vocabulary.specs.declared.nodes.Function.TheVariants.{Root}
use Rattle.vocabulary.specs.declared.refusals.Refusal.{Refusal}
use Rattle.meaning.specs.Values.{Value, null, bool, signed, unsigned, text, ext, whole}
use Rattle.model.specs.Shapes.{trees_by}
use Rattle.model.specs.Wanted.{New, root, literal, get_item, cast, binary, between, host, new_bytes, new_tree}
use Rattle.model.specs.Steps.{Step, AllGiven}
use Rattle.model.specs.LawsOfMaking.{with_operands}
use Rattle.vocabulary.specs.Nodes.{UnboundNode}
use Rattle.model.specs.Unbound.{UnboundStore, empty_unbound, unbound_at, tree_for}
use Rattle.model.specs.UnboundMaking.{make_unbound, unbound_with_children, perform_unbound, after_unbound}
use Rattle.model.specs.UnboundSoundness.{SoundUnbound}

-- the arena as it is opened is sound
abbrev pub EmptyUnboundIsSound : Type 0
EmptyUnboundIsSound = (records bytes : ℕ) → SoundUnbound (empty_unbound records bytes)

-- making and rebuilding keep it sound
abbrev pub UnboundStepsKeepSound : Type 0
UnboundStepsKeepSound =
    (u : UnboundStore) → SoundUnbound u → (cs : List Step) → AllGiven cs → SoundUnbound (after_unbound cs u)

-- what is made stays: no later step changes a node's record, its number or its tree, whatever the schema
abbrev pub UnboundNodesStay : Type 0
UnboundNodesStay =
    (u : UnboundStore) → SoundUnbound u
    → (cs : List Step) → AllGiven cs
    → (k : ℕ) (x : UnboundNode) → unbound_at u k ≡ Some x
    → (unbound_at (after_unbound cs u) k ≡ Some x)
    × ((q : ℕ) → tree_for q (after_unbound cs u) k ≡ tree_for q u k)

-- a refusal leaves the arena as it was
abbrev pub UnboundRefusalsChangeNothing : Type 0
UnboundRefusalsChangeNothing =
    (c : Step) (u : UnboundStore) (r : Refusal) → (perform_unbound c u).0 ≡ Err r → (perform_unbound c u).1 ≡ u

-- a literal's value as it is held: no literal holds a whole row
abbrev pub held : Value → Value
held null = null
held (bool b) = bool b
held (signed z) = signed z
held (unsigned n) = unsigned n
held (text bs) = text bs
held (ext e z) = ext e z
held (whole s) = null

-- what a node that is asked for stands for against the schema q
abbrev pub for_schema : ℕ → New → New
for_schema q (root s) = root q
for_schema q (literal t v) = literal t (held v)
for_schema q (get_item name) = get_item name
for_schema q (cast t) = cast t
for_schema q (binary o) = binary o
for_schema q (between o) = between o
for_schema q (host c) = host c

-- the new node has the next number, and its tree is the function asked for over the children's trees
pub record MadeUnbound (w : New) (cs : List ℕ) (n : ℕ) (u later : UnboundStore) (k : ℕ) : Type 0 where
  pub number : k ≡ length u.nodes
  pub tree_is : (q : ℕ) → tree_for q later k ≡ new_tree (tree_for q u) cs n (for_schema q w)
  pub one_more : length later.nodes ≡ suc (length u.nodes)
  pub text_is : later.text ≡ u.text ++ new_bytes w

abbrev pub UnboundMadeAsAsked : Type 0
UnboundMadeAsAsked =
    (u : UnboundStore) → SoundUnbound u
    → (w : New) (cs : List ℕ) (n k : ℕ) → min n 8 ≤ length cs
    → (make_unbound w cs n u).0 ≡ Ok k → MadeUnbound w cs n u (make_unbound w cs n u).1 k

-- a rebuilt node is the old one over the other children: a new node on the same text, or a Root itself
pub record RebuiltUnbound (old : ℕ) (cs : List ℕ) (n : ℕ) (u later : UnboundStore) (k : ℕ) : Type 0 where
  pub record_of : UnboundNode
  pub found : unbound_at u old ≡ Some record_of
  pub tree_is : (q : ℕ) → tree_for q later k ≡ with_operands (tree_for q u old) (trees_by (tree_for q u) (take n cs))
  pub text_is : later.text ≡ u.text
  pub new_or_itself :
      ((k ≡ length u.nodes) × (length later.nodes ≡ suc (length u.nodes)))
      ⊎ ((record_of.function ≡ Root) × (n ≡ 0) × (k ≡ old) × (later ≡ u))

abbrev pub UnboundRebuiltOverOthers : Type 0
UnboundRebuiltOverOthers =
    (u : UnboundStore) → SoundUnbound u
    → (old : ℕ) (cs : List ℕ) (n k : ℕ) → min n 8 ≤ length cs
    → (unbound_with_children old cs n u).0 ≡ Ok k
    → RebuiltUnbound old cs n u (unbound_with_children old cs n u).1 k
