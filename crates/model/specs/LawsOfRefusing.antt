-- Exactly when making and rebuilding are refused, in the order of the refusals' numbers.
use Rattle.std.specs.Prelude.{◌≡◌, ℕ, ◌+◌, ◌<◌, ◌≤◌, min, true, false, List, [], ◌∷◌, ◌++◌, length, take, Some, None}
use Rattle.std.specs.Prelude.{Err, ◌≢◌}
use Rattle.vocabulary.specs.declared.nodes.Function.TheVariants.{Root}
use Rattle.vocabulary.specs.Nodes.{BoundNode as Node}
use Rattle.vocabulary.specs.declared.refusals.BindingRefusal.TheVariants.{NoSuchCode, WrongChildCount}
use Rattle.vocabulary.specs.declared.refusals.BindingRefusal.TheVariants.{DoesNotBind, TooDeep, TooLarge}
use Rattle.vocabulary.specs.declared.refusals.MemoryRefusal.TheVariants.{NoSuchNode, NoSuchSchema}
use Rattle.vocabulary.specs.declared.refusals.MemoryRefusal.TheVariants.{RecordsFull, TextFull}
use Rattle.vocabulary.specs.declared.refusals.Refusal.{Refusal}
use Rattle.vocabulary.specs.declared.refusals.Refusal.TheVariants.{Memory, Binding}
use Rattle.vocabulary.specs.declared.types.DType.{DType}
use Rattle.meaning.specs.Hosts.{Meaning}
use Rattle.meaning.specs.Trees.{Expr, depth, size}
use Rattle.meaning.specs.Typing.{typed}
use Rattle.model.specs.Stores.{Store, node_at}
use Rattle.model.specs.Shapes.{Head, head, tree, trees}
use Rattle.model.specs.Wanted.{New, root, literal, get_item, cast, binary, between, host}
use Rattle.model.specs.Wanted.{new_bytes, new_head, new_tree}
use Rattle.model.specs.Making.{named, head_known, head_counts, make}
use Rattle.model.specs.Rebuilding.{with_children}
use Rattle.model.specs.Soundness.{Below, Sound}
use Rattle.model.specs.LawsOfMaking.{with_operands}

-- k is the first of the numbers that no node has
pub record FirstMissing (s : Store) (ks : List ℕ) (k : ℕ) : Type 0 where
  pub front : List ℕ
  pub back : List ℕ
  pub split : ks ≡ front ++ (k ∷ back)
  pub there : Below (length s.nodes) front
  pub missing : length s.nodes ≤ k

-- the children looked at are there, the host has the code, and the count is right
pub record Counted (m : Meaning) (s : Store) (h : Head) (cs : List ℕ) (n : ℕ) : Type 0 where
  pub there : Below (length s.nodes) (named cs n)
  pub known : head_known m h ≡ true
  pub counts : head_counts m h n ≡ true

-- and the tree e that is asked for binds, within the limits of depth and size
pub record Fine (m : Meaning) (s : Store) (h : Head) (cs : List ℕ) (n : ℕ) (e : Expr) : Type 0 where
  pub counted : Counted m s h cs n
  pub type : DType
  pub binds : typed m s.schemas e ≡ Some type
  pub shallow : depth e ≤ 256
  pub small : size e ≤ 4096

-- the tree e, which is h over the first n of the numbers cs and appends bs to the text, is refused at a place
pub data Refused (m : Meaning) (s : Store) (place : ℕ) (h : Head) (bs cs : List ℕ) (n : ℕ) (e : Expr) :
    Refusal → Type 0 where
  -- 3: a child is no node
  no_node : (k : ℕ) → FirstMissing s (named cs n) k → Refused m s place h bs cs n e (Memory (NoSuchNode k))
  -- 4: the host has no such code
  no_code :
      Below (length s.nodes) (named cs n) → head_known m h ≡ false
      → Refused m s place h bs cs n e (Binding (NoSuchCode place))
  -- 5: the function does not take so many children
  wrong_count :
      Below (length s.nodes) (named cs n) → head_known m h ≡ true → head_counts m h n ≡ false
      → Refused m s place h bs cs n e (Binding (WrongChildCount place))
  -- 6: the tree does not bind
  unbound :
      Counted m s h cs n → typed m s.schemas e ≡ None
      → Refused m s place h bs cs n e (Binding (DoesNotBind place))
  -- 7: it binds, and is deeper than 256
  too_deep :
      Counted m s h cs n → (t : DType) → typed m s.schemas e ≡ Some t → 256 < depth e
      → Refused m s place h bs cs n e (Binding (TooDeep place))
  -- 8: it is not too deep, and larger than 4,096
  too_large :
      Counted m s h cs n → (t : DType) → typed m s.schemas e ≡ Some t → depth e ≤ 256 → 4096 < size e
      → Refused m s place h bs cs n e (Binding (TooLarge place))
  -- 9: there is no record left
  records_full :
      Fine m s h cs n e → s.records ≤ length s.nodes
      → Refused m s place h bs cs n e (Memory (RecordsFull place))
  -- 10: the text has no room for what it appends
  text_full :
      Fine m s h cs n e → length s.nodes < s.records → s.bytes < length s.text + length bs
      → Refused m s place h bs cs n e (Memory (TextFull place))

-- a Root's schema is one of 0 to 7
abbrev pub SchemaThere : New → Type 0
SchemaThere (root q) = q ≤ 7
SchemaThere (literal t v) = Unit {0}
SchemaThere (get_item name) = Unit {0}
SchemaThere (cast t) = Unit {0}
SchemaThere (binary o) = Unit {0}
SchemaThere (between o) = Unit {0}
SchemaThere (host c) = Unit {0}

-- making is refused: 3 for a schema above 7, else for the tree asked for, at 65,535
pub data RefusedNew (m : Meaning) (s : Store) (w : New) (cs : List ℕ) (n : ℕ) : Refusal → Type 0 where
  no_schema : (q : ℕ) → w ≡ root q → 7 < q → RefusedNew m s w cs n (Memory (NoSuchSchema q))
  of_the_tree :
      {r : Refusal} → SchemaThere w
      → Refused m s 65535 (new_head w) (new_bytes w) cs n (new_tree (tree s) cs n w) r
      → RefusedNew m s w cs n r

abbrev pub MakingRefusesExactly : Type 0
MakingRefusesExactly =
    (m : Meaning) (s : Store) → Sound m s
    → (w : New) (cs : List ℕ) (n : ℕ) → min n 8 ≤ length cs
    → (r : Refusal)
    → ((make m w cs n s).0 ≡ Err r → RefusedNew m s w cs n r)
    × (RefusedNew m s w cs n r → (make m w cs n s).0 ≡ Err r)

-- rebuilding is refused: 3 for the node, else for the tree asked for, at the node; a Root over no children never is
pub data RefusedOld (m : Meaning) (s : Store) (k : ℕ) (cs : List ℕ) (n : ℕ) : Refusal → Type 0 where
  no_such : length s.nodes ≤ k → RefusedOld m s k cs n (Memory (NoSuchNode k))
  of_the_tree :
      {r : Refusal} (x : Node) → node_at s k ≡ Some x → (x.function ≡ Root → n ≢ 0)
      → Refused m s k (head s.text x) [] cs n (with_operands (tree s k) (trees s (take n cs))) r
      → RefusedOld m s k cs n r

abbrev pub RebuildingRefusesExactly : Type 0
RebuildingRefusesExactly =
    (m : Meaning) (s : Store) → Sound m s
    → (k : ℕ) (cs : List ℕ) (n : ℕ) → min n 8 ≤ length cs
    → (r : Refusal)
    → ((with_children m k cs n s).0 ≡ Err r → RefusedOld m s k cs n r)
    × (RefusedOld m s k cs n r → (with_children m k cs n s).0 ≡ Err r)
