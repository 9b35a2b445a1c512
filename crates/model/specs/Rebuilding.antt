-- Rebuilding a node: the same function over other children, on the same text.
use Rattle.std.specs.Prelude.{ℕ, zero, suc, List, [], Some, None, Ok, Err, Option, Result}
use Rattle.vocabulary.specs.declared.nodes.Function.{Function}
use Rattle.vocabulary.specs.declared.nodes.Function.TheVariants.{Root, Literal, GetItem, Cast, Binary, Between, Host}
use Rattle.vocabulary.specs.Nodes.{BoundNode as Node}
use Rattle.vocabulary.specs.declared.refusals.MemoryRefusal.TheVariants.{NoSuchNode}
use Rattle.vocabulary.specs.declared.refusals.Refusal.{Refusal}
use Rattle.vocabulary.specs.declared.refusals.Refusal.TheVariants.{Memory}
use Rattle.meaning.specs.Hosts.{Meaning}
use Rattle.model.specs.Stores.{Store, node_at}
use Rattle.model.specs.Shapes.{head}
use Rattle.model.specs.Making.{Plan, build, entered}

-- the plan of the node k rebuilt, whose record is x: it appends nothing, and a refusal names k
abbrev pub old_plan : ℕ → Node → List ℕ → ℕ → Store → Plan
old_plan k x cs n s = record {
  place = k;
  head = head s.text x;
  function = x.function;
  adds = [];
  children = cs;
  count = n;
}

-- a Root with no children is itself; anything else is made anew
abbrev pub itself_or : ℕ → Function → ℕ → Store → Result ℕ Refusal × Store → Result ℕ Refusal × Store
itself_or k Root zero s anew = (Ok k, s)
itself_or k Root (suc n) s anew = anew
itself_or k (Literal t v) n s anew = anew
itself_or k (GetItem name) n s anew = anew
itself_or k (Cast t) n s anew = anew
itself_or k (Binary o) n s anew = anew
itself_or k (Between o) n s anew = anew
itself_or k (Host c) n s anew = anew

-- the node of that record, rebuilt
abbrev pub rebuilt : Meaning → ℕ → Option Node → List ℕ → ℕ → Store → Result ℕ Refusal × Store
rebuilt m k None cs n s = (Err (Memory (NoSuchNode k)), s)
rebuilt m k (Some x) cs n s = itself_or k x.function n s (entered [] s (build m (old_plan k x cs n s) s))

-- rebuilding the node k over the first so many of those numbers
abbrev pub with_children : Meaning → ℕ → List ℕ → ℕ → Store → Result ℕ Refusal × Store
with_children m k cs n s = rebuilt m k (node_at s k) cs n s
