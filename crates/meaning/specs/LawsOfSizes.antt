-- Neither optimizing nor fusing makes a tree larger or deeper.
use Rattle.std.specs.Prelude.{◌≡◌, ℕ, ◌≤◌, Some}
use Rattle.meaning.specs.Hosts.{Meaning}
use Rattle.meaning.specs.Lawful.{Lawful}
use Rattle.meaning.specs.Trees.{Expr, depth, size}
use Rattle.meaning.specs.Columns.{Schemas}
use Rattle.meaning.specs.Optimizing.{optimize}
use Rattle.meaning.specs.Fusing.{find_between}

-- what either gives has no more nodes, and no more levels, than the tree it was given
abbrev pub NothingGrows : Type 0
NothingGrows =
    (m : Meaning) → Lawful m
    → (ss : Schemas) (e : Expr)
    → ((k : ℕ) (d : Expr) → optimize m ss k e ≡ Some d → (size d ≤ size e) × (depth e ≤ k → depth d ≤ depth e))
    × ((size (find_between m ss e) ≤ size e) × (depth (find_between m ss e) ≤ depth e))
