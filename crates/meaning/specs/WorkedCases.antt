-- Worked cases, on a schema of x (I64), b (Bool) and t (Extension 1).
use Rattle.std.specs.Prelude.{◌≡◌, ℕ, zero, suc, Bool, true, false, [], ◌∷◌, pos, Some, None, codes}
use Rattle.vocabulary.specs.declared.types.DType.{DType}
use Rattle.vocabulary.specs.declared.types.Kind.{Kind}
use Rattle.vocabulary.specs.declared.types.Kind.TheVariants as kind
use Rattle.vocabulary.specs.declared.operators.BetweenOptions.{BetweenOptions}
use Rattle.vocabulary.specs.declared.operators.Connective.TheVariants as connective
use Rattle.vocabulary.specs.declared.operators.Operator.TheVariants.{Eq, Gt, Lt, And, Div}
use Rattle.vocabulary.specs.declared.operators.StrictComparison.{StrictComparison}
use Rattle.vocabulary.specs.declared.operators.StrictComparison.TheVariants.{Strict, NonStrict}
use Rattle.meaning.specs.Outcomes.{arithmetic, fault_number, value, fault}
use Rattle.meaning.specs.Values.{null, bool, signed, ext, boolean}
use Rattle.meaning.specs.Kleene.{kleene}
use Rattle.meaning.specs.Comparing.{lies_between}
use Rattle.meaning.specs.Hosts.{Meaning}
use Rattle.meaning.specs.Trees.{cast, Expr, node, nil, cons, binary, between_node}
use Rattle.meaning.specs.Columns.{Schemas}
use Rattle.meaning.specs.Evaluating.{Env, eval}
use Rattle.meaning.specs.Literals.{lit}
use Rattle.meaning.specs.Optimizing.{optimize}
use Rattle.meaning.specs.Ranges.{column_tree}
use Rattle.meaning.specs.Fusing.{find_between}

-- a type that is not nullable
abbrev pub strictly : Kind → DType
strictly k = record { kind = k; nullable = false }

-- the schema of the cases
abbrev pub sample : Schemas
sample =
    (record { name = codes "x"; dtype = strictly kind.I64 }
    ∷ record { name = codes "b"; dtype = strictly kind.Bool }
    ∷ record { name = codes "t"; dtype = strictly (kind.Extension 1) }
    ∷ []) ∷ []

-- the column x
abbrev pub x : Expr
x = column_tree (record { name = codes "x"; schema = 0 })

-- the column b
abbrev pub b : Expr
b = column_tree (record { name = codes "b"; schema = 0 })

-- the column t
abbrev pub t : Expr
t = column_tree (record { name = codes "t"; schema = 0 })

-- the I64 literal n
abbrev pub number : ℕ → Expr
number n = lit (strictly kind.I64) (signed (pos n))

-- the literal n of Extension e
abbrev pub stamp : ℕ → ℕ → Expr
stamp e n = lit (strictly (kind.Extension e)) (ext e (pos n))

-- the literal true, nullable or not
abbrev pub yes : Bool → Expr
yes n = lit (boolean n) (bool true)

-- the literal false
abbrev pub no : Expr
no = lit (boolean false) (bool false)

-- both bounds strict, or neither
abbrev pub both : StrictComparison → BetweenOptions
both s = record { lower_strict = s; upper_strict = s }

-- 1 / 0 = 1
abbrev pub faulty : Expr
faulty = binary Eq (binary Div (number 1) (number 0)) (number 1)

-- so many nested `true AND` before e
abbrev pub trues : ℕ → Expr → Expr
trues zero e = e
trues (suc n) e = binary And (yes false) (trues n e)

-- the cases, over any host and on any row
pub record Cases (m : Meaning) (r : Env) : Type 0 where
  -- x > 1 AND x < 5
  pub range_pair_fuses :
      find_between m sample (binary And (binary Gt x (number 1)) (binary Lt x (number 5)))
      ≡ between_node (both Strict) x (number 1) (number 5)
  -- 5 > x AND x > 1
  pub swapped_pair_fuses_alike :
      find_between m sample (binary And (binary Gt (number 5) x) (binary Gt x (number 1)))
      ≡ between_node (both Strict) x (number 1) (number 5)
  -- x > 1 AND (b AND x < 5)
  pub nested_pair_fuses :
      find_between m sample (binary And (binary Gt x (number 1)) (binary And b (binary Lt x (number 5))))
      ≡ binary And (between_node (both Strict) x (number 1) (number 5)) b
  -- x > 1 AND x > 0
  pub two_lower_bounds_stay :
      find_between m sample (binary And (binary Gt x (number 1)) (binary Gt x (number 0)))
      ≡ binary And (binary Gt x (number 1)) (binary Gt x (number 0))
  -- t > 4 AND t < 9, the bounds of two Extensions
  pub unlike_bounds_stay :
      find_between m sample (binary And (binary Gt t (stamp 1 4)) (binary Lt t (stamp 2 9)))
      ≡ binary And (binary Gt t (stamp 1 4)) (binary Lt t (stamp 2 9))
  -- x = NULL
  pub comparison_with_null_becomes_null :
      optimize m sample 256 (binary Eq x (lit (record { kind = kind.I64; nullable = true }) null))
      ≡ Some (lit (boolean true) null)
  pub null_and_false_is_false : kleene connective.And null (bool false) ≡ bool false
  pub null_or_true_is_true : kleene connective.Or null (bool true) ≡ bool true
  pub null_and_true_is_null : kleene connective.And null (bool true) ≡ null
  -- 10 BETWEEN NULL AND 5
  pub null_bound_leaves_false :
      lies_between (both NonStrict) (signed (pos 10)) null (signed (pos 5)) ≡ value (bool false)
  -- 3 BETWEEN NULL AND 5
  pub null_bound_leaves_null :
      lies_between (both NonStrict) (signed (pos 3)) null (signed (pos 5)) ≡ value null
  -- true AND (true AND b), the inner literal nullable
  pub less_nullable_operand_is_cast :
      optimize m sample 256 (binary And (yes false) (binary And (yes true) b))
      ≡ Some (node (cast (boolean true)) (cons b nil))
  -- false AND (1 / 0 = 1)
  pub false_drops_a_fault : optimize m sample 256 (binary And no faulty) ≡ Some no
  pub unoptimized_it_faults : eval m r (binary And no faulty) ≡ fault arithmetic
  pub with_number_15 : fault_number arithmetic ≡ 15
  pub two_hundred_trues_go : optimize m sample 256 (trues 200 b) ≡ Some b
  pub one_more_is_refused : optimize m sample 256 (trues 201 b) ≡ None

-- the cases follow from the definitions
abbrev pub WorkedCases : Type 0
WorkedCases = (m : Meaning) (r : Env) → Cases m r
