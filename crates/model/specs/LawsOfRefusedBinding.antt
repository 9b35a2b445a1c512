-- Why binding is refused, and which node of the unbound tree a refusal names.
use Rattle.std.specs.Prelude.{◌≡◌, ℕ, ◌+◌, ◌<◌, ◌≤◌, false, ◌⊎◌, List, [], ◌∷◌, length, Some, None, Err}
use Rattle.vocabulary.specs.declared.refusals.BindingRefusal.TheVariants.{NoSuchCode, WrongChildCount, DoesNotBind}
use Rattle.vocabulary.specs.declared.refusals.MemoryRefusal.TheVariants.{NoSuchNode, NoSuchSchema}
use Rattle.vocabulary.specs.declared.refusals.MemoryRefusal.TheVariants.{RecordsFull, TextFull, WorkShort}
use Rattle.vocabulary.specs.declared.refusals.Refusal.{Refusal}
use Rattle.vocabulary.specs.declared.refusals.Refusal.TheVariants.{Memory, Binding}
use Rattle.meaning.specs.Hosts.{Meaning}
use Rattle.meaning.specs.Trees.{size}
use Rattle.meaning.specs.Typing.{typed}
use Rattle.model.specs.Stores.{Store, node_among}
use Rattle.model.specs.Shapes.{Head, head_of, kids}
use Rattle.model.specs.Wanted.{new_bytes}
use Rattle.model.specs.Making.{head_known, head_counts}
use Rattle.model.specs.Soundness.{Sound}
use Rattle.model.specs.LawsOfMaking.{Grows}
use Rattle.vocabulary.specs.Nodes.{UnboundNode}
use Rattle.model.specs.Unbound.{UnboundStore, rows, tree_for}
use Rattle.model.specs.UnboundSoundness.{SoundUnbound}
use Rattle.model.specs.BindingTrees.{asked, bind}

-- the number is one of the list
abbrev pub OneOf : ℕ → List ℕ → Type 0
OneOf k [] = ⊥
OneOf k (i ∷ is) = (k ≡ i) ⊎ OneOf k is

-- the node j stands in the tree of the node n: it is n, or stands in the tree of a child
pub data StandsIn (xs : List UnboundNode) : ℕ → ℕ → Type 0 where
  itself : {n : ℕ} → StandsIn xs n n
  under :
      {n k j : ℕ} (x : UnboundNode) → node_among xs n ≡ Some x → OneOf k (kids x) → StandsIn xs k j
      → StandsIn xs n j

-- what an unbound node computes against a schema
abbrev pub head_for : ℕ → UnboundStore → UnboundNode → Head
head_for q u x = head_of u.text (rows q) x.function

-- why the node k of the record x, in the tree of the node n, is refused
pub data Cause (m : Meaning) (u : UnboundStore) (n q : ℕ) (s : Store) (k : ℕ) (x : UnboundNode) : Refusal → Type 0 where
  -- 4: the host has no such code
  no_code : head_known m (head_for q u x) ≡ false → Cause m u n q s k x (Binding (NoSuchCode k))
  -- 5: the host's function does not take so many children
  wrong_count :
      head_counts m (head_for q u x) x.child_count ≡ false → Cause m u n q s k x (Binding (WrongChildCount k))
  -- 6: its tree does not bind
  unbindable : typed m s.schemas (tree_for q u k) ≡ None → Cause m u n q s k x (Binding (DoesNotBind k))
  -- 9: there are not as many records left as the whole tree has places
  records_full : s.records < length s.nodes + size (tree_for q u n) → Cause m u n q s k x (Memory (RecordsFull k))
  -- 10: behind the text of what was bound before it there is no room for its own
  text_full :
      (later : Store) → Grows s later
      → s.bytes < length later.text + length (new_bytes (asked q u.text x.function))
      → Cause m u n q s k x (Memory (TextFull k))

-- binding the node n is refused: 3 for the node, 3 for the schema, 11, else for a node of the tree, which is named
pub data RefusedBinding (m : Meaning) (u : UnboundStore) (n q work : ℕ) (s : Store) : Refusal → Type 0 where
  no_node : length u.nodes ≤ n → RefusedBinding m u n q work s (Memory (NoSuchNode n))
  no_schema : n < length u.nodes → 7 < q → RefusedBinding m u n q work s (Memory (NoSuchSchema q))
  work_short :
      n < length u.nodes → q ≤ 7 → work < 256 → RefusedBinding m u n q work s (Memory (WorkShort n))
  at_node :
      {r : Refusal} → n < length u.nodes → q ≤ 7 → 256 ≤ work
      → (k : ℕ) (x : UnboundNode) → StandsIn u.nodes n k → node_among u.nodes k ≡ Some x
      → Cause m u n q s k x r → RefusedBinding m u n q work s r

-- a refusal leaves the store as it was
abbrev pub RefusedBindingsChangeNothing : Type 0
RefusedBindingsChangeNothing =
    (m : Meaning) (u : UnboundStore) (n q work : ℕ) (s : Store) (r : Refusal)
    → (bind m u n q work s).0 ≡ Err r → (bind m u n q work s).1 ≡ s

-- a refusal has its cause, and never is one for depth or size
abbrev pub BindingRefusesForCauses : Type 0
BindingRefusesForCauses =
    (m : Meaning) (u : UnboundStore) → SoundUnbound u
    → (s : Store) → Sound m s
    → (n q work : ℕ) (r : Refusal) → (bind m u n q work s).0 ≡ Err r → RefusedBinding m u n q work s r

-- binding is refused for types only where the whole tree does not bind against the schema
abbrev pub TypesRefuseNoTreeThatBinds : Type 0
TypesRefuseNoTreeThatBinds =
    (m : Meaning) (u : UnboundStore) → SoundUnbound u
    → (s : Store) → Sound m s
    → (n q work k : ℕ) → (bind m u n q work s).0 ≡ Err (Binding (DoesNotBind k))
    → typed m s.schemas (tree_for q u n) ≡ None
