-- Items up to a limit.
use Rattle.std.specs.Prelude.{ℕ, List}

-- the items in the order in which they were put in, and how many there may be
pub record Limited (T : Type 0) : Type 0 where
  pub items : List T
  pub limit : ℕ
