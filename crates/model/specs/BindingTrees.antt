-- Binding an unbound tree against a schema: children first, left to right, one node for each place of the tree.
use Rattle.std.specs.Prelude.{ℕ, Bool, cond, List, [], ◌∷◌, length, Ok, Err, Result, ◌==◌, nat_le, nat_lt}
use Rattle.vocabulary.specs.declared.nodes.Function.{Function}
use Rattle.vocabulary.specs.declared.nodes.Function.TheVariants.{Root, Literal, GetItem, Cast, Binary, Between, Host}
use Rattle.vocabulary.specs.declared.refusals.MemoryRefusal.TheVariants.{NoSuchNode, NoSuchSchema, WorkShort}
use Rattle.vocabulary.specs.declared.refusals.Refusal.{Refusal}
use Rattle.vocabulary.specs.declared.refusals.Refusal.TheVariants.{Memory}
use Rattle.vocabulary.specs.Nodes.{padded}
use Rattle.meaning.specs.HostCode.{part, read}
use Rattle.meaning.specs.Hosts.{Meaning}
use Rattle.model.specs.Stores.{Store}
use Rattle.model.specs.Wanted.{New, new_function, new_bytes, new_head}
use Rattle.model.specs.Making.{Plan, build, entered}
use Rattle.vocabulary.specs.Nodes.{UnboundNode}
use Rattle.model.specs.Unbound.{UnboundStore}
use Rattle.model.specs.Shapes.{kids}

-- goes on with what was made; a refusal is passed on
abbrev pub onward : {A B : Type 0} → Result A Refusal × Store
    → (A → Store → Result B Refusal × Store) → Result B Refusal × Store
onward (Ok a, s) next = next a s
onward (Err r, s) next = (Err r, s)

-- the node that an unbound function asks for against the schema q, with its text as bytes
abbrev pub asked : ℕ → List ℕ → Function → New
asked q text Root = New.root q
asked q text (Literal t v) = New.literal t (read text [] v)
asked q text (GetItem name) = New.get_item (part text name)
asked q text (Cast t) = New.cast t
asked q text (Binary o) = New.binary o
asked q text (Between o) = New.between o
asked q text (Host c) = New.host c

-- the plan of a new node as for making, whose place in a refusal is k
abbrev pub plan_at : ℕ → New → List ℕ → ℕ → Store → Plan
plan_at k w cs n s = record {
  place = k;
  head = new_head w;
  function = new_function s.text w;
  adds = new_bytes w;
  children = cs;
  count = n;
}

-- making a node, where a refusal names k; a Root's schema is looked at before
abbrev pub make_at : Meaning → ℕ → New → List ℕ → ℕ → Store → Result ℕ Refusal × Store
make_at m k w cs n s = entered (new_bytes w) s (build m (plan_at k w cs n s) s)

-- the unbound node k of the record x, bound over the bound numbers of its children
abbrev pub bind_over : Meaning → ℕ → List ℕ → ℕ → UnboundNode → List ℕ → Store → Result ℕ Refusal × Store
bind_over m q text k x js s =
    make_at m k (asked q text x.function) (padded js x.child_count) x.child_count s

-- numbers bound one after the other, left to right
abbrev pub bind_all : (ℕ → Store → Result ℕ Refusal × Store) → List ℕ → Store → Result (List ℕ) Refusal × Store
bind_all f [] s = (Ok [], s)
bind_all f (k ∷ ks) s =
    onward (f k s) (λ j s1. onward (bind_all f ks s1) (λ js s2. (Ok (j ∷ js), s2)))

-- the node of a number among unbound nodes with the newest first: its children, then itself
unfoldable pub bind_among : Meaning → ℕ → List ℕ → List UnboundNode → ℕ → Store → Result ℕ Refusal × Store
bind_among m q text [] n s = (Err (Memory (NoSuchNode n)), s)
bind_among m q text (x ∷ xs) n s =
    cond (n == length xs)
    (onward (bind_all (bind_among m q text xs) (kids x) s) (bind_over m q text n x))
    (bind_among m q text xs n s)

-- a refusal leaves the store as it was
abbrev pub all_or_nothing : Store → Result ℕ Refusal × Store → Result ℕ Refusal × Store
all_or_nothing s (Ok k, later) = (Ok k, later)
all_or_nothing s (Err r, later) = (Err r, s)

-- goes on where the test holds, else refuses and leaves the store
abbrev pub first : Bool → Refusal → Store → Result ℕ Refusal × Store → Result ℕ Refusal × Store
first ok r s next = cond ok next (Err r, s)

-- binding the node n against the schema q, with so many entries of work memory
abbrev pub bind : Meaning → UnboundStore → ℕ → ℕ → ℕ → Store → Result ℕ Refusal × Store
bind m u n q work s =
    first (nat_lt n (length u.nodes)) (Memory (NoSuchNode n)) s
    (first (nat_le q 7) (Memory (NoSuchSchema q)) s
    (first (nat_le 256 work) (Memory (WorkShort n)) s
    (all_or_nothing s (bind_among m q u.text u.nodes n s))))
