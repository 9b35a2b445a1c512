-- Fusing keeps type and value, leaves no pair, and merges the pairs in their order.
use Rattle.std.specs.Prelude.{◌≡◌, List, [], ◌∷◌, ◌++◌, Some, None, Option}
use Rattle.vocabulary.specs.declared.operators.Connective.TheVariants.{And, Or}
use Rattle.meaning.specs.Outcomes.{settled}
use Rattle.meaning.specs.Hosts.{Meaning}
use Rattle.meaning.specs.Trees.{Expr, logic, node, Exprs, nil, cons}
use Rattle.meaning.specs.Columns.{Schemas}
use Rattle.meaning.specs.Typing.{typed}
use Rattle.meaning.specs.Evaluating.{Env, eval}
use Rattle.meaning.specs.Conjuncts.{conjuncts, EachConjunct}
use Rattle.meaning.specs.Fusing.{fuse, merged, merge, find_between}

-- fusing keeps the type, and the value wherever either has one
abbrev pub FusingKeeps : Type 0
FusingKeeps =
    (m : Meaning) (ss : Schemas) (r : Env) (e : Expr)
    → (typed m ss (find_between m ss e) ≡ typed m ss e)
    × (settled (eval m r (find_between m ss e)) ≡ settled (eval m r e))

-- no pair straddles the And of a and b
abbrev pub Apart : Meaning → Schemas → Expr → Expr → Type 0
Apart m ss a b = EachConjunct (λ d. EachConjunct (λ c. fuse m ss d c ≡ None) a) b

abbrev mutual
  -- no pair straddles any And of the expression
  pub Fused : Meaning → Schemas → Expr → Type 0
  Fused m ss (logic And a b) = (Fused m ss a × Fused m ss b) × Apart m ss a b
  Fused m ss (logic Or a b) = Fused m ss a × Fused m ss b
  Fused m ss (node f es) = FusedAll m ss es

  -- no pair straddles any And of the children
  pub FusedAll : Meaning → Schemas → Exprs → Type 0
  FusedAll m ss nil = Unit {0}
  FusedAll m ss (cons e es) = Fused m ss e × FusedAll m ss es

-- fusing leaves no pair, and fusing again changes nothing
abbrev pub FusingCompletes : Type 0
FusingCompletes =
    (m : Meaning) (ss : Schemas) (e : Expr)
    → Fused m ss (find_between m ss e) × (find_between m ss (find_between m ss e) ≡ find_between m ss e)

-- each of the list has P
abbrev pub All : (Expr → Type 0) → List Expr → Type 0
All P [] = Unit {0}
All P (e ∷ es) = P e × All P es

-- the conjuncts of what is left
abbrev pub left_over : Option Expr → List Expr
left_over None = []
left_over (Some e) = conjuncts e

-- one merge in the lists of conjuncts, from the sides l and r to the left side k and what is left of the right
pub record FirstPair (m : Meaning) (ss : Schemas) (l r k : Expr) (rest : Option Expr) : Type 0 where
  pub left_partner : Expr
  pub right_partner : Expr
  pub pair : Expr
  pub left_before : List Expr
  pub left_after : List Expr
  pub right_before : List Expr
  pub right_after : List Expr
  -- the two are a pair, one a conjunct of each side
  pub fused : fuse m ss right_partner left_partner ≡ Some pair
  pub in_left : conjuncts l ≡ left_before ++ (left_partner ∷ left_after)
  pub in_right : conjuncts r ≡ right_before ++ (right_partner ∷ right_after)
  -- the right one is the first that has a partner, and the left one its first partner
  pub first_left : All (λ x. fuse m ss right_partner x ≡ None) left_before
  pub first_right : All (λ y. All (λ x. fuse m ss y x ≡ None) (conjuncts l)) right_before
  -- their Between takes the left one's place, and the right one is removed
  pub new_left : conjuncts k ≡ left_before ++ (pair ∷ left_after)
  pub new_right : left_over rest ≡ right_before ++ right_after

-- each merge takes the first pair
abbrev pub MergingTakesTheFirstPair : Type 0
MergingTakesTheFirstPair =
    (m : Meaning) (ss : Schemas) (l r k : Expr) (rest : Option Expr)
    → merge m ss l r ≡ Some (merged k rest) → FirstPair m ss l r k rest
