-- Fusing pairs of range comparisons into Between.
use Rattle.std.specs.Prelude.{ℕ, zero, suc, Bool, true, false, cond, ◌&&◌, Some, None, Option, ◌==◌}
use Rattle.std.specs.Str.{bytes_eq}
use Rattle.std.specs.Option.{option_map, option_or}
use Rattle.vocabulary.specs.declared.types.DType.{DType}
use Rattle.vocabulary.specs.declared.operators.Connective.TheVariants.{And, Or}
use Rattle.meaning.specs.Outcomes.{and_then}
use Rattle.meaning.specs.Hosts.{Meaning}
use Rattle.meaning.specs.Trees.{Expr, logic, node, Exprs, nil, cons, between_node}
use Rattle.meaning.specs.Columns.{Schemas}
use Rattle.meaning.specs.Typing.{typed}
use Rattle.meaning.specs.Conjuncts.{count_conjuncts, replace_first}
use Rattle.meaning.specs.Ranges.{Column, Range, column_tree, bound_tree, range}

-- one column: equal names of one schema
abbrev pub same_column : Column → Column → Bool
same_column x y = bytes_eq x.name y.name && x.schema == y.schema

-- the Between of a lower and an upper range of one column
abbrev pub between_tree : Range → Range → Expr
between_tree l u =
    between_node
    (record { lower_strict = l.strict; upper_strict = u.strict })
    (column_tree l.col)
    (bound_tree l.bound)
    (bound_tree u.bound)

-- the expression, where it has a type
abbrev pub if_typed : Meaning → Schemas → Expr → Option DType → Option Expr
if_typed m ss e None = None
if_typed m ss e (Some t) = Some e

-- the expression, if it binds
abbrev pub if_binds : Meaning → Schemas → Expr → Option Expr
if_binds m ss e = if_typed m ss e (typed m ss e)

-- the Between of two ranges, of which one is lower and one upper
abbrev pub fuse_sides : Meaning → Schemas → Range → Range → Bool → Bool → Option Expr
fuse_sides m ss p q true true = None
fuse_sides m ss p q true false = if_binds m ss (between_tree p q)
fuse_sides m ss p q false true = if_binds m ss (between_tree q p)
fuse_sides m ss p q false false = None

-- the Between of two ranges of one column
abbrev pub fuse_ranges : Meaning → Schemas → Range → Range → Option Expr
fuse_ranges m ss p q = cond (same_column p.col q.col) (fuse_sides m ss p q p.lower q.lower) None

-- the Between of a right conjunct and a left one, if they are a pair
unfoldable pub fuse : Meaning → Schemas → Expr → Expr → Option Expr
fuse m ss r l = and_then (range l) (λ p. and_then (range r) (λ q. fuse_ranges m ss p q))

-- the left side after a merge, and what is left of the right side
pub data Merged : Type 0 where
  merged : Expr → Option Expr → Merged

-- what is left of a left part, before b
abbrev pub beside : Option Expr → Expr → Expr
beside None b = b
beside (Some a) b = logic And a b

-- a, before what is left of a right part
abbrev pub before : Expr → Option Expr → Expr
before a None = a
before a (Some b) = logic And a b

-- a merge in the left part of an And, whose right part b stays
abbrev pub keep_right : Expr → Merged → Merged
keep_right b (merged l a) = merged l (Some (beside a b))

-- a merge in the right part of an And, whose left part a stays
abbrev pub keep_left : Expr → Merged → Merged
keep_left a (merged l b) = merged l (Some (before a b))

-- merges one pair: the first right conjunct with a partner, with its first left partner, whose place Between takes
abbrev pub merge : Meaning → Schemas → Expr → Expr → Option Merged
merge m ss l (logic And a b) =
    option_or (option_map (keep_right b) (merge m ss l a)) (option_map (keep_left a) (merge m ss l b))
merge m ss l (logic Or a b) = option_map (λ k. merged k None) (replace_first (fuse m ss (logic Or a b)) l)
merge m ss l (node f es) = option_map (λ k. merged k None) (replace_first (fuse m ss (node f es)) l)

-- the And after a merge: more merges, until no pair is left or the right side is used up
abbrev pub merging_step : (Expr → Expr → Expr) → Expr → Expr → Option Merged → Expr
merging_step more l r None = logic And l r
merging_step more l r (Some (merged k None)) = k
merging_step more l r (Some (merged k (Some d))) = more k d

-- the And of l and r with its pairs merged, at most so many
unfoldable pub merging : Meaning → Schemas → ℕ → Expr → Expr → Expr
merging m ss zero l r = logic And l r
merging m ss (suc k) l r = merging_step (merging m ss k) l r (merge m ss l r)

abbrev mutual
  -- fuses the pairs of a whole tree, children first; no And has more pairs than right conjuncts
  pub find_between : Meaning → Schemas → Expr → Expr
  find_between m ss (logic And a b) =
      merging m ss (count_conjuncts (find_between m ss b)) (find_between m ss a) (find_between m ss b)
  find_between m ss (logic Or a b) = logic Or (find_between m ss a) (find_between m ss b)
  find_between m ss (node f es) = node f (find_between_all m ss es)

  -- the same of each child
  pub find_between_all : Meaning → Schemas → Exprs → Exprs
  find_between_all m ss nil = nil
  find_between_all m ss (cons e es) = cons (find_between m ss e) (find_between_all m ss es)
