-- The conjuncts of an expression.
use Rattle.std.specs.Prelude.{ℕ, ◌+◌, List, [], ◌∷◌, ◌++◌, Option}
use Rattle.std.specs.Option.{option_map, option_or}
use Rattle.vocabulary.specs.declared.operators.Connective.TheVariants.{And, Or}
use Rattle.meaning.specs.Trees.{Expr, logic, node}

-- those of both sides of an And, left to right; any other expression is its own
abbrev pub conjuncts : Expr → List Expr
conjuncts (logic And a b) = conjuncts a ++ conjuncts b
conjuncts (logic Or a b) = logic Or a b ∷ []
conjuncts (node f es) = node f es ∷ []

-- how many conjuncts there are
abbrev pub count_conjuncts : Expr → ℕ
count_conjuncts (logic And a b) = count_conjuncts a + count_conjuncts b
count_conjuncts (logic Or a b) = 1
count_conjuncts (node f es) = 1

-- the first conjunct that g answers for, replaced by that answer
abbrev pub replace_first : (Expr → Option Expr) → Expr → Option Expr
replace_first g (logic And a b) =
    option_or (option_map (λ c. logic And c b) (replace_first g a))
    (option_map (λ c. logic And a c) (replace_first g b))
replace_first g (logic Or a b) = g (logic Or a b)
replace_first g (node f es) = g (node f es)

-- each conjunct has P
abbrev pub EachConjunct : (Expr → Type 0) → Expr → Type 0
EachConjunct P (logic And a b) = EachConjunct P a × EachConjunct P b
EachConjunct P (logic Or a b) = P (logic Or a b)
EachConjunct P (node f es) = P (node f es)
