-- Making a node: the checks in the order of their numbers, and the record.
use Rattle.std.specs.Prelude.{ℕ, suc, ◌+◌, min, max, Bool, true, cond, ◌&&◌, List, [], ◌∷◌, map, length, take, Some}
use Rattle.std.specs.Prelude.{None, Ok, Err, Option, Result, ◌==◌, nat_le, nat_lt}
use Rattle.vocabulary.specs.declared.nodes.Function.{Function}
use Rattle.vocabulary.specs.declared.nodes.Node.{Node as Record}
use Rattle.vocabulary.specs.Nodes.{BoundNode as Node}
use Rattle.vocabulary.specs.declared.refusals.BindingRefusal.TheVariants.{NoSuchCode, WrongChildCount}
use Rattle.vocabulary.specs.declared.refusals.BindingRefusal.TheVariants.{DoesNotBind, TooDeep, TooLarge}
use Rattle.vocabulary.specs.declared.refusals.MemoryRefusal.TheVariants.{NoSuchNode, NoSuchSchema}
use Rattle.vocabulary.specs.declared.refusals.MemoryRefusal.TheVariants.{RecordsFull, TextFull}
use Rattle.vocabulary.specs.declared.refusals.Refusal.{Refusal}
use Rattle.vocabulary.specs.declared.refusals.Refusal.TheVariants.{Memory, Binding}
use Rattle.vocabulary.specs.declared.types.DType.{DType}
use Rattle.vocabulary.specs.Nodes.{recorded}
use Rattle.meaning.specs.Columns.{Schemas}
use Rattle.meaning.specs.Hosts.{Meaning}
use Rattle.meaning.specs.Lists.{of_two}
use Rattle.meaning.specs.Trees.{Fn, root, literal, get_item, cast, compare, compute, between, call}
use Rattle.meaning.specs.Typing.{fn_type, logic_type}
use Rattle.model.specs.Stores.{Store, node_at, grown}
use Rattle.model.specs.Shapes.{Head, join, over}
use Rattle.model.specs.Wanted.{New, new_function, new_bytes, new_head}

-- what is to be recorded
pub record Plan : Type 0 where
  -- the node that a refusal names
  pub place : ℕ
  -- what the node computes
  pub head : Head
  -- the same as it is recorded
  pub function : Function
  -- the bytes that are appended to the text
  pub adds : List ℕ
  pub children : List ℕ
  pub count : ℕ

-- the children that are looked at: the first so many, at most eight
abbrev pub named : List ℕ → ℕ → List ℕ
named cs n = take (min n 8) cs

-- one more record in front
abbrev pub before : {T : Type 0} → Record T → Result (List (Record T)) ℕ → Result (List (Record T)) ℕ
before x (Ok xs) = Ok (x ∷ xs)
before x (Err k) = Err k

-- the record of the number k, in front of others
abbrev pub with_record : {T : Type 0} → ℕ → Option (Record T) → Result (List (Record T)) ℕ
    → Result (List (Record T)) ℕ
with_record k None r = Err k
with_record k (Some x) r = before x r

-- the records of numbers, or the first number that no node has
abbrev pub looked_up : Store → List ℕ → Result (List Node) ℕ
looked_up s [] = Ok []
looked_up s (k ∷ ks) = with_record k (node_at s k) (looked_up s ks)

-- goes on where the test holds, else refuses
abbrev pub check : Bool → Refusal → Result Node Refusal → Result Node Refusal
check ok r next = cond ok next (Err r)

-- a call is of a code that the host has
abbrev pub fn_known : Meaning → Fn → Bool
fn_known m (root s) = true
fn_known m (literal t v) = true
fn_known m (get_item n) = true
fn_known m (cast t) = true
fn_known m (compare c) = true
fn_known m (compute o) = true
fn_known m (between o) = true
fn_known m (call c) = m.has c

abbrev pub head_known : Meaning → Head → Bool
head_known m (join o) = true
head_known m (over f) = fn_known m f

-- the function takes so many children, and they are at most eight
abbrev pub fn_counts : Meaning → Fn → ℕ → Bool
fn_counts m (root s) n = n == 0
fn_counts m (literal t v) n = n == 0
fn_counts m (get_item k) n = n == 1
fn_counts m (cast t) n = n == 1
fn_counts m (compare c) n = n == 2
fn_counts m (compute o) n = n == 2
fn_counts m (between o) n = n == 3
fn_counts m (call c) n = nat_le n 8 && m.takes c n

abbrev pub head_counts : Meaning → Head → ℕ → Bool
head_counts m (join o) n = n == 2
head_counts m (over f) n = fn_counts m f n

-- the type of a node over children of those types
abbrev pub head_type : Meaning → Schemas → Head → List DType → Option DType
head_type m ss (join o) ts = of_two None logic_type ts
head_type m ss (over f) ts = fn_type m ss f ts

-- the types that are recorded
abbrev pub types_of : List Node → List DType
types_of xs = map (λ (x : Node). x.dtype) xs

-- the largest depth that is recorded
abbrev pub deepest : {T : Type 0} → List (Record T) → ℕ
deepest [] = 0
deepest (x ∷ xs) = max x.depth (deepest xs)

-- the sum of the sizes that are recorded
abbrev pub total_size : {T : Type 0} → List (Record T) → ℕ
total_size [] = 0
total_size (x ∷ xs) = x.size + total_size xs

-- the record of a node of type t over those children
abbrev pub new_record : Plan → DType → List Node → Node
new_record p t xs = recorded p.function p.children p.count t (suc (deepest xs)) (suc (total_size xs))

-- a node of type t: depth, size and room
abbrev pub sized : Plan → Store → List Node → DType → Result Node Refusal
sized p s xs t =
    check (nat_le (suc (deepest xs)) 256) (Binding (TooDeep p.place))
    (check (nat_le (suc (total_size xs)) 4096) (Binding (TooLarge p.place))
    (check (nat_lt (length s.nodes) s.records) (Memory (RecordsFull p.place))
    (check (nat_le (length s.text + length p.adds) s.bytes) (Memory (TextFull p.place))
    (Ok (new_record p t xs)))))

-- a node that has a type, or does not bind
abbrev pub bound : Plan → Store → List Node → Option DType → Result Node Refusal
bound p s xs None = Err (Binding (DoesNotBind p.place))
bound p s xs (Some t) = sized p s xs t

-- a node over children that are there, or the first that is not
abbrev pub over_children : Meaning → Plan → Store → Result (List Node) ℕ → Result Node Refusal
over_children m p s (Err k) = Err (Memory (NoSuchNode k))
over_children m p s (Ok xs) =
    check (head_known m p.head) (Binding (NoSuchCode p.place))
    (check (head_counts m p.head p.count) (Binding (WrongChildCount p.place))
    (bound p s xs (head_type m s.schemas p.head (types_of xs))))

-- the record that a plan comes to, or the refusal
unfoldable pub build : Meaning → Plan → Store → Result Node Refusal
build m p s = over_children m p s (looked_up s (named p.children p.count))

-- the number of the new node and the store grown by it; a refusal leaves the store as it was
abbrev pub entered : List ℕ → Store → Result Node Refusal → Result ℕ Refusal × Store
entered bs s (Ok x) = (Ok (length s.nodes), grown x bs s)
entered bs s (Err r) = (Err r, s)

-- the plan of a new node, whose place in a refusal is 65,535
abbrev pub new_plan : New → List ℕ → ℕ → Store → Plan
new_plan w cs n s = record {
  place = 65535;
  head = new_head w;
  function = new_function s.text w;
  adds = new_bytes w;
  children = cs;
  count = n;
}

-- a Root's schema is one of 0 to 7
abbrev pub schema_first : New → Result Node Refusal → Result Node Refusal
schema_first (New.root s) next = check (nat_le s 7) (Memory (NoSuchSchema s)) next
schema_first (New.literal t v) next = next
schema_first (New.get_item name) next = next
schema_first (New.cast t) next = next
schema_first (New.binary o) next = next
schema_first (New.between o) next = next
schema_first (New.host c) next = next

-- making a node over the first so many of those numbers
abbrev pub make : Meaning → New → List ℕ → ℕ → Store → Result ℕ Refusal × Store
make m w cs n s = entered (new_bytes w) s (schema_first w (build m (new_plan w cs n s) s))
