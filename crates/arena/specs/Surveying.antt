-- What the children of a node come to, one after another.
use Rattle.std.specs.Prelude.{ℕ, ◌+◌, max, cond, List, [], ◌∷◌, ◌++◌, Ok, Err, Result, nat_lt}
use Rattle.vocabulary.specs.Nodes.{BoundNode as Node}
use Rattle.vocabulary.specs.declared.refusals.BindingRefusal.{BindingRefusal}
use Rattle.vocabulary.specs.declared.refusals.BindingRefusal.TheVariants.{TooDeep, TooLarge}
use Rattle.vocabulary.specs.declared.refusals.MemoryRefusal.TheVariants.{NoSuchNode}
use Rattle.vocabulary.specs.declared.refusals.Refusal.{Refusal}
use Rattle.vocabulary.specs.declared.refusals.Refusal.TheVariants.{Memory}
use Rattle.arena.specs.declared.bounds.Kin.{Kin}

-- of no children
abbrev pub no_kin : Kin
no_kin = record {
  types = [];
  depth = 0;
  size = 0;
}

-- with one more
abbrev pub with_child : Kin → Node → Kin
with_child k x = record {
  types = k.types ++ x.dtype ∷ [];
  depth = max k.depth x.depth;
  size = k.size + x.size;
}

-- with more
abbrev pub with_more : Kin → List Node → Kin
with_more k [] = k
with_more k (x ∷ xs) = with_more (with_child k x) xs

-- with those that were looked up, or the refusal of the first that is no node
abbrev pub surveyed : Kin → Result (List Node) ℕ → Result Kin Refusal
surveyed k (Ok xs) = Ok (with_more k xs)
surveyed k (Err n) = Err (Memory (NoSuchNode n))

-- the depth of a node over children of that depth
abbrev pub deeper : ℕ → ℕ → Result ℕ BindingRefusal
deeper place d = cond (nat_lt d 256) (Ok (d + 1)) (Err (TooDeep place))

-- the size of a node over children of that size
abbrev pub larger : ℕ → ℕ → Result ℕ BindingRefusal
larger place n = cond (nat_lt n 4096) (Ok (n + 1)) (Err (TooLarge place))
