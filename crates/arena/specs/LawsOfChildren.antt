-- Making and rebuilding look at the first so many children alone, at most eight. So what holds of eight numbers and a
-- count holds of a slice of numbers and its length.
use Rattle.std.specs.Prelude.{◌≡◌, ℕ, min, List, length}
use Rattle.vocabulary.specs.Nodes.{padded}
use Rattle.meaning.specs.Hosts.{Meaning}
use Rattle.model.specs.Making.{named, make}
use Rattle.model.specs.Rebuilding.{with_children}
use Rattle.model.specs.Stores.{Store}
use Rattle.model.specs.Unbound.{UnboundStore}
use Rattle.model.specs.UnboundMaking.{make_unbound, unbound_with_children}
use Rattle.model.specs.Wanted.{New}

-- making and rebuilding over the one and over the other are the same
pub record AreAlike (cs ds : List ℕ) (n : ℕ) : Type 0 where
  pub made : (m : Meaning) (w : New) (s : Store) → make m w cs n s ≡ make m w ds n s
  pub rebuilt : (m : Meaning) (k : ℕ) (s : Store) → with_children m k cs n s ≡ with_children m k ds n s
  pub made_unbound : (w : New) (u : UnboundStore) → make_unbound w cs n u ≡ make_unbound w ds n u
  pub rebuilt_unbound :
      (k : ℕ) (u : UnboundStore) → unbound_with_children k cs n u ≡ unbound_with_children k ds n u

-- numbers are alike where the first so many of them are
abbrev pub TheFirstDecide : Type 0
TheFirstDecide = (cs ds : List ℕ) (n : ℕ) → named cs n ≡ named ds n → AreAlike cs ds n

-- the first eight of them, with zeros behind
abbrev pub eight : List ℕ → List ℕ
eight cs = padded cs (min (length cs) 8)

-- eight numbers stand for any slice of them
abbrev pub EightStandForAny : Type 0
EightStandForAny = (cs : List ℕ) → (length (eight cs) ≡ 8) × AreAlike cs (eight cs) (length cs)
