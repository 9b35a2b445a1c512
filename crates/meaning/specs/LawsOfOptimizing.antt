-- Optimizing ends where no rule fires, and is refused for too many rounds alone.
use Rattle.std.specs.Prelude.{◌≡◌, ℕ, zero, suc, ◌+◌, ◌≤◌, ◌⊎◌, Some, None}
use Rattle.meaning.specs.Hosts.{Meaning}
use Rattle.meaning.specs.Trees.{Expr, logic, node, Exprs, nil, cons, depth}
use Rattle.meaning.specs.Columns.{Schemas}
use Rattle.meaning.specs.Rules.{simplify, reduce}
use Rattle.meaning.specs.Optimizing.{round, rounds, map_children, optimize}

abbrev mutual
  -- no rule fires at any node of the expression
  pub Normal : Meaning → Schemas → Expr → Type 0
  Normal m ss (logic o a b) =
      ((simplify m ss (logic o a b) ≡ None) × (reduce m ss (logic o a b) ≡ None))
      × (Normal m ss a × Normal m ss b)
  Normal m ss (node f es) =
      ((simplify m ss (node f es) ≡ None) × (reduce m ss (node f es) ≡ None)) × Normals m ss es

  -- no rule fires at any node of the children
  pub Normals : Meaning → Schemas → Exprs → Type 0
  Normals m ss nil = Unit {0}
  Normals m ss (cons e es) = Normal m ss e × Normals m ss es

-- an optimized expression is normal, and optimizing it again changes nothing
abbrev pub OptimizedIsNormal : Type 0
OptimizedIsNormal =
    (m : Meaning) (ss : Schemas) (k : ℕ) (e d : Expr)
    → optimize m ss k e ≡ Some d → Normal m ss d × (optimize m ss k d ≡ Some d)

-- as many levels as the tree has are enough: more change nothing
abbrev pub DepthSuffices : Type 0
DepthSuffices =
    (m : Meaning) (ss : Schemas) (j k : ℕ) (e : Expr)
    → depth e ≤ k → optimize m ss (j + k) e ≡ optimize m ss k e

-- so many rounds in a row change the expression
abbrev pub Changing : Meaning → Schemas → ℕ → Expr → Type 0
Changing m ss zero e = Unit {0}
Changing m ss (suc j) e = (d : Expr) × (round m ss e ≡ Some d) × Changing m ss j d

-- one of the children has P
abbrev pub OneOf : (Expr → Type 0) → Exprs → Type 0
OneOf P nil = ⊥
OneOf P (cons e es) = P e ⊎ OneOf P es

-- a child of the expression has P
abbrev pub OneChild : (Expr → Type 0) → Expr → Type 0
OneChild P (logic o a b) = P a ⊎ P b
OneChild P (node f es) = OneOf P es

-- optimizing e runs rounds at x: at e itself, on the way through a child of what the rounds gave, or at that node
-- over its optimized children
abbrev pub Treated : Meaning → Schemas → ℕ → Expr → Expr → Type 0
Treated m ss zero e x = ⊥
Treated m ss (suc k) e x =
    (e ≡ x)
    ⊎ ((d : Expr) × (rounds m ss 100 e ≡ Some d)
    × (OneChild (λ c. Treated m ss k c x) d ⊎ (map_children (optimize m ss k) d ≡ Some x)))

-- optimizing is refused only for a 101st round that would change a treated node
abbrev pub RefusedOnlyForA101stRound : Type 0
RefusedOnlyForA101stRound =
    (m : Meaning) (ss : Schemas) (k : ℕ) (e : Expr)
    → depth e ≤ k → optimize m ss k e ≡ None → (x : Expr) × Treated m ss k e x × Changing m ss 101 x
