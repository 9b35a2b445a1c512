-- Making and rebuilding nodes in the way that bound and unbound arenas share: types are left to a typist.
use Rattle.std.specs.Prelude.{ℕ, List, [], Some, None, Ok, Err, Option, Result}
use Rattle.vocabulary.specs.Nodes.{BoundNode as Node}
use Rattle.vocabulary.specs.declared.refusals.BindingRefusal.{BindingRefusal}
use Rattle.vocabulary.specs.declared.refusals.MemoryRefusal.TheVariants.{NoSuchNode}
use Rattle.vocabulary.specs.declared.refusals.Refusal.{Refusal}
use Rattle.vocabulary.specs.declared.refusals.Refusal.TheVariants.{Memory, Binding}
use Rattle.vocabulary.specs.declared.types.DType.{DType}
use Rattle.model.specs.BindingTrees.{plan_at}
use Rattle.model.specs.Making.{Plan, named, looked_up, types_of, sized, entered}
use Rattle.model.specs.Rebuilding.{old_plan, itself_or}
use Rattle.model.specs.Stores.{Store, node_at}
use Rattle.model.specs.Wanted.{New, new_bytes}
use Rattle.typing.specs.Typing.{Typing}
use Rattle.arena.specs.Rebuilding.{again}

-- a node of the type that was given, if its depth, its size and the room allow it
abbrev pub sized_as : Plan → Store → List Node → Result DType BindingRefusal → Result Node Refusal
sized_as p s xs (Err e) = Err (Binding e)
sized_as p s xs (Ok t) = sized p s xs t

-- a node over children that are there, or the first that is not
abbrev pub typed_over : (List DType → Result DType BindingRefusal) → Plan → Store
    → Result (List Node) ℕ → Result Node Refusal
typed_over types p s (Err k) = Err (Memory (NoSuchNode k))
typed_over types p s (Ok xs) = sized_as p s xs (types (types_of xs))

-- the record that a plan comes to, or the refusal
unfoldable pub build_by : (List DType → Result DType BindingRefusal) → Plan → Store → Result Node Refusal
build_by types p s = typed_over types p s (looked_up s (named p.children p.count))

-- making a node over the first so many of those numbers, where a refusal names that place
abbrev pub make_by : Typing → ℕ → New → List ℕ → ℕ → Store → Result ℕ Refusal × Store
make_by typing place w cs n s = entered (new_bytes w) s (build_by (typing place w n) (plan_at place w cs n s) s)

-- the node of that record, rebuilt on the same text
abbrev pub rebuilt_by : Typing → ℕ → Option Node → List ℕ → ℕ → Store → Result ℕ Refusal × Store
rebuilt_by typing k None cs n s = (Err (Memory (NoSuchNode k)), s)
rebuilt_by typing k (Some x) cs n s =
    itself_or k x.function n s
    (entered [] s (build_by (typing k (again s.text x.dtype x.function) n) (old_plan k x cs n s) s))

-- rebuilding the node k over the first so many of those numbers
abbrev pub rebuild_by : Typing → ℕ → List ℕ → ℕ → Store → Result ℕ Refusal × Store
rebuild_by typing k cs n s = rebuilt_by typing k (node_at s k) cs n s
