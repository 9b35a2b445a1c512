-- Making and rebuilding unbound nodes: as in an arena of bound ones, with no types and no host.
use Rattle.std.specs.Prelude.{ℕ, zero, suc, true, List, [], ◌∷◌, length, Some, None, Ok, Err, Option, Result}
use Rattle.vocabulary.specs.declared.nodes.Function.{Function}
use Rattle.vocabulary.specs.declared.nodes.Function.TheVariants.{Root, Literal, GetItem, Cast, Binary, Between, Host}
use Rattle.vocabulary.specs.Nodes.{BoundNode as Node}
use Rattle.vocabulary.specs.declared.refusals.BindingRefusal.TheVariants.{WrongChildCount}
use Rattle.vocabulary.specs.declared.refusals.MemoryRefusal.TheVariants.{NoSuchNode}
use Rattle.vocabulary.specs.declared.refusals.Refusal.{Refusal}
use Rattle.vocabulary.specs.declared.refusals.Refusal.TheVariants.{Memory, Binding}
use Rattle.meaning.specs.Hosts.{Meaning, fails, nothing}
use Rattle.model.specs.Stores.{Store}
use Rattle.model.specs.Wanted.{New, new_bytes}
use Rattle.model.specs.Making.{Plan, named, looked_up, check, head_counts, sized, new_plan}
use Rattle.model.specs.Rebuilding.{old_plan}
use Rattle.model.specs.Steps.{Step, makes, rebuilds}
use Rattle.vocabulary.specs.Nodes.{UnboundNode, untyped}
use Rattle.model.specs.Unbound.{UnboundStore, unbound_at, unbound_grown, rows, seen, against}

-- the host of unbound trees, which has every code and takes any count
abbrev pub any_host : Meaning
any_host = record {
  has = λ c. true;
  takes = λ c n. true;
  types = λ c ts. None;
  gives = λ c vs. fails 0;
  rule = λ c ts vs. nothing;
}

-- a node over children that are there, or the first that is not: the count, at most eight for the host's functions,
-- then depth, size and room
abbrev pub over_unbound : Plan → Store → Result (List Node) ℕ → Result Node Refusal
over_unbound p s (Err k) = Err (Memory (NoSuchNode k))
over_unbound p s (Ok xs) =
    check (head_counts any_host p.head p.count) (Binding (WrongChildCount p.place)) (sized p s xs (rows 0))

-- the record that a plan comes to, with a type that nothing looks at, or the refusal
unfoldable pub build_unbound : Plan → UnboundStore → Result Node Refusal
build_unbound p u = over_unbound p (against 0 u) (looked_up (against 0 u) (named p.children p.count))

-- the number of the new node and the arena grown by it; a refusal leaves the arena as it was
abbrev pub entered_unbound : List ℕ → UnboundStore → Result Node Refusal → Result ℕ Refusal × UnboundStore
entered_unbound bs u (Ok x) = (Ok (length u.nodes), unbound_grown (untyped x) bs u)
entered_unbound bs u (Err r) = (Err r, u)

-- making a node over the first so many of those numbers; the schema of a Root asked for is not looked at
abbrev pub make_unbound : New → List ℕ → ℕ → UnboundStore → Result ℕ Refusal × UnboundStore
make_unbound w cs n u = entered_unbound (new_bytes w) u (build_unbound (new_plan w cs n (against 0 u)) u)

-- a Root with no children is itself; anything else is made anew
abbrev pub itself_or_new : ℕ → Function → ℕ → UnboundStore → Result ℕ Refusal × UnboundStore
    → Result ℕ Refusal × UnboundStore
itself_or_new k Root zero u anew = (Ok k, u)
itself_or_new k Root (suc n) u anew = anew
itself_or_new k (Literal t v) n u anew = anew
itself_or_new k (GetItem name) n u anew = anew
itself_or_new k (Cast t) n u anew = anew
itself_or_new k (Binary o) n u anew = anew
itself_or_new k (Between o) n u anew = anew
itself_or_new k (Host c) n u anew = anew

-- the node of that record, rebuilt on the same text
abbrev pub rebuilt_unbound : ℕ → Option UnboundNode → List ℕ → ℕ → UnboundStore → Result ℕ Refusal × UnboundStore
rebuilt_unbound k None cs n u = (Err (Memory (NoSuchNode k)), u)
rebuilt_unbound k (Some x) cs n u =
    itself_or_new k x.function n u
    (entered_unbound [] u (build_unbound (old_plan k (seen 0 x) cs n (against 0 u)) u))

-- rebuilding the node k over the first so many of those numbers
abbrev pub unbound_with_children : ℕ → List ℕ → ℕ → UnboundStore → Result ℕ Refusal × UnboundStore
unbound_with_children k cs n u = rebuilt_unbound k (unbound_at u k) cs n u

-- what a step answers in an arena of unbound nodes, and the arena after it
abbrev pub perform_unbound : Step → UnboundStore → Result ℕ Refusal × UnboundStore
perform_unbound (makes w cs n) u = make_unbound w cs n u
perform_unbound (rebuilds k cs n) u = unbound_with_children k cs n u

-- the arena after steps, first to last
abbrev pub after_unbound : List Step → UnboundStore → UnboundStore
after_unbound [] u = u
after_unbound (c ∷ cs) u = after_unbound cs (perform_unbound c u).1
