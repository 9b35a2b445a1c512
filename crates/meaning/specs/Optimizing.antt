-- Rounds of rules, and optimizing a whole tree.
use Rattle.std.specs.Prelude.{ℕ, zero, suc, Some, None, Option}
use Rattle.meaning.specs.Outcomes.{and_then}
use Rattle.meaning.specs.Hosts.{Meaning}
use Rattle.meaning.specs.Trees.{Expr, logic, node, Exprs, nil, cons}
use Rattle.meaning.specs.Columns.{Schemas}
use Rattle.meaning.specs.Rules.{simplify, reduce}

-- what a rule answers, or the expression where it answers none
abbrev pub or_itself : Expr → Option Expr → Expr
or_itself e None = e
or_itself e (Some d) = d

-- a round after what simplify answered: reduce of what stands
abbrev pub round_by : Option Expr → (Expr → Option Expr) → Expr → Option Expr
round_by None red e = red e
round_by (Some d) red e = Some (or_itself d (red d))

-- a round: simplify, then reduce of what stands; none where neither answers
unfoldable pub round : Meaning → Schemas → Expr → Option Expr
round m ss e = round_by (simplify m ss e) (reduce m ss) e

-- the rounds after one: more of them where it changed the expression
abbrev pub rounds_step : (Expr → Option Expr) → Expr → Option Expr → Option Expr
rounds_step more e None = Some e
rounds_step more e (Some d) = more d

-- rounds until one changes nothing, at most so many of them changing; none where one more would change
unfoldable pub rounds : Meaning → Schemas → ℕ → Expr → Option Expr
rounds m ss zero e = rounds_step (λ d. None) e (round m ss e)
rounds m ss (suc k) e = rounds_step (rounds m ss k) e (round m ss e)

-- f of each child, if it answers for all
abbrev pub map_all : (Expr → Option Expr) → Exprs → Option Exprs
map_all f nil = Some nil
map_all f (cons e es) = and_then (f e) (λ d. and_then (map_all f es) (λ ds. Some (cons d ds)))

-- the node over f of each child, if it answers for all
abbrev pub map_children : (Expr → Option Expr) → Expr → Option Expr
map_children f (logic o a b) = and_then (f a) (λ c. and_then (f b) (λ d. Some (logic o c d)))
map_children f (node g es) = and_then (map_all f es) (λ ds. Some (node g ds))

-- optimizes a tree of at most k levels: rounds at the root, then the children, then rounds again, which change
-- nothing where no child changed
unfoldable pub optimize : Meaning → Schemas → ℕ → Expr → Option Expr
optimize m ss zero e = None
optimize m ss (suc k) e =
    and_then (rounds m ss 100 e) (λ d. and_then (map_children (optimize m ss k) d) (rounds m ss 100))
