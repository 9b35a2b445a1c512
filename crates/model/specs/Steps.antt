-- Steps that make nodes, one after another.
use Rattle.std.specs.Prelude.{ℕ, ◌≤◌, min, List, [], ◌∷◌, length, Result}
use Rattle.vocabulary.specs.declared.refusals.Refusal.{Refusal}
use Rattle.meaning.specs.Hosts.{Meaning}
use Rattle.model.specs.Stores.{Store}
use Rattle.model.specs.Wanted.{New}
use Rattle.model.specs.Making.{make}
use Rattle.model.specs.Rebuilding.{with_children}

-- making a node, or rebuilding one, over the first so many of those numbers
pub data Step : Type 0 where
  makes : New → List ℕ → ℕ → Step
  rebuilds : ℕ → List ℕ → ℕ → Step

-- what a step answers, and the store after it
abbrev pub perform : Meaning → Step → Store → Result ℕ Refusal × Store
perform m (makes w cs n) s = make m w cs n s
perform m (rebuilds k cs n) s = with_children m k cs n s

-- the store after steps, first to last
abbrev pub after : Meaning → List Step → Store → Store
after m [] s = s
after m (c ∷ cs) s = after m cs (perform m c s).1

-- the numbers that a step is given
abbrev pub numbers : Step → List ℕ
numbers (makes w cs n) = cs
numbers (rebuilds k cs n) = cs

-- how many of them it names
abbrev pub count : Step → ℕ
count (makes w cs n) = n
count (rebuilds k cs n) = n

-- each step is given the children that it names: so many, or eight where it names more
abbrev pub AllGiven : List Step → Type 0
AllGiven [] = Unit {0}
AllGiven (c ∷ cs) = (min (count c) 8 ≤ length (numbers c)) × AllGiven cs
