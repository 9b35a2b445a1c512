-- The rules: simplify and reduce. Each answers a node of the same type, or none.
use Rattle.std.specs.Prelude.{ℕ, Bool, true, false, cond, ◌||◌, List, [], ◌∷◌, Some, None, Option}
use Rattle.std.specs.Option.{option_map}
use Rattle.vocabulary.specs.declared.types.DType.{DType}
use Rattle.vocabulary.specs.declared.operators.Connective.{Connective}
use Rattle.meaning.specs.Outcomes.{and_then}
use Rattle.meaning.specs.Values.{Value, null, bool, boolean}
use Rattle.meaning.specs.Kleene.{lut, decides, deciding}
use Rattle.meaning.specs.Hosts.{Answer, nothing, child, constant, other, constant_value, Meaning}
use Rattle.meaning.specs.Trees.{Fn, root, literal, get_item, cast, compare, compute, between, call}
use Rattle.meaning.specs.Trees.{Expr, logic, node, Exprs, nil, cons, nth_child}
use Rattle.meaning.specs.Columns.{Schemas}
use Rattle.meaning.specs.Typing.{typed, typed_all}
use Rattle.meaning.specs.Literals.{lit, literal_of, literals_of, has_null_literal}
use Rattle.meaning.specs.Literals.{Seen, sees_truth, sees_null, sees_other, seen}

-- whether a type is nullable
abbrev pub nullable_of : Option DType → Bool
nullable_of None = false
nullable_of (Some t) = t.nullable

-- whether an expression's type is nullable
abbrev pub nullable : Meaning → Schemas → Expr → Bool
nullable m ss e = nullable_of (typed m ss e)

-- an operand of nullability k at nullability n: a literal takes it, any other that is less nullable goes under a Cast
abbrev pub widen_as : Bool → Bool → Expr → Option Value → Expr
widen_as n k e (Some v) = lit (boolean n) v
widen_as true true e None = e
widen_as true false e None = node (cast (boolean true)) (cons e nil)
widen_as false k e None = e

-- the same, by what the operand holds
abbrev pub widen : Bool → Bool → Expr → Expr
widen n k e = widen_as n k e (literal_of e)

-- And or Or of the truth x and an operand: the literal that decides, or the operand
abbrev pub drop_truth : Connective → Bool → Bool → Bool → Expr → Expr
drop_truth o x n k e = cond (decides o x) (lit (boolean n) (bool (deciding o))) (widen n k e)

-- simplify at And and Or of nullability n, over operands of nullability ka and kb, the left looked at first
abbrev pub simplify_logic : Connective → Bool → Bool → Bool → Expr → Expr → Seen → Seen → Option Expr
simplify_logic o n ka kb a b (sees_truth x) s = Some (drop_truth o x n kb b)
simplify_logic o n ka kb a b sees_null (sees_truth y) = Some (drop_truth o y n ka a)
simplify_logic o n ka kb a b sees_null sees_null = Some (widen n ka a)
simplify_logic o n ka kb a b sees_null sees_other = None
simplify_logic o n ka kb a b sees_other (sees_truth y) = Some (drop_truth o y n ka a)
simplify_logic o n ka kb a b sees_other sees_null = None
simplify_logic o n ka kb a b sees_other sees_other = None

-- reduce at And and Or: two literal truths give the literal of the table, one is dropped or decides
abbrev pub reduce_logic : Connective → Bool → Bool → Bool → Expr → Expr → Seen → Seen → Option Expr
reduce_logic o n ka kb a b (sees_truth x) (sees_truth y) = Some (lit (boolean n) (bool (lut o x y)))
reduce_logic o n ka kb a b (sees_truth x) sees_null = Some (drop_truth o x n kb b)
reduce_logic o n ka kb a b (sees_truth x) sees_other = Some (drop_truth o x n kb b)
reduce_logic o n ka kb a b sees_null (sees_truth y) = Some (drop_truth o y n ka a)
reduce_logic o n ka kb a b sees_null sees_null = None
reduce_logic o n ka kb a b sees_null sees_other = None
reduce_logic o n ka kb a b sees_other (sees_truth y) = Some (drop_truth o y n ka a)
reduce_logic o n ka kb a b sees_other sees_null = None
reduce_logic o n ka kb a b sees_other sees_other = None

-- the children at the places, in the places' order
abbrev pub pick_children : Exprs → List ℕ → Option Exprs
pick_children es [] = Some nil
pick_children es (i ∷ is) =
    and_then (nth_child es i) (λ e. and_then (pick_children es is) (λ ds. Some (cons e ds)))

-- a host's answer at a node of type t, as an expression
abbrev pub answer_tree : DType → Exprs → Answer → Option Expr
answer_tree t es nothing = None
answer_tree t es (child i) = nth_child es i
answer_tree t es (constant k) = Some (lit t (constant_value k))
answer_tree t es (other c is) = option_map (node (call c)) (pick_children es is)

-- the rule of a function of the host, asked where the node binds
abbrev pub host_rule : Meaning → Schemas → ℕ → Exprs → Option Expr
host_rule m ss c es =
    and_then (typed_all m ss es) (λ ts.
    and_then (typed m ss (node (call c) es)) (λ t.
    answer_tree t es (m.rule c ts (literals_of es))))

-- simplify at other nodes: a comparison with a null literal becomes null, and a host has its own rules
abbrev pub simplify_node : Meaning → Schemas → Fn → Exprs → Option Expr
simplify_node m ss (root s) es = None
simplify_node m ss (literal t v) es = None
simplify_node m ss (get_item n) es = None
simplify_node m ss (cast t) es = None
simplify_node m ss (compare c) es = cond (has_null_literal es) (Some (lit (boolean true) null)) None
simplify_node m ss (compute o) es = None
simplify_node m ss (between o) es = None
simplify_node m ss (call c) es = host_rule m ss c es

-- the rule simplify
unfoldable pub simplify : Meaning → Schemas → Expr → Option Expr
simplify m ss (logic o a b) =
    simplify_logic o (nullable m ss a || nullable m ss b) (nullable m ss a) (nullable m ss b) a b (seen a) (seen b)
simplify m ss (node f es) = simplify_node m ss f es

-- the rule reduce
unfoldable pub reduce : Meaning → Schemas → Expr → Option Expr
reduce m ss (logic o a b) =
    reduce_logic o (nullable m ss a || nullable m ss b) (nullable m ss a) (nullable m ss b) a b (seen a) (seen b)
reduce m ss (node f es) = None
