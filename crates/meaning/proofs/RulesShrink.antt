-- No rule makes an expression larger, and neither does optimizing.
use Rattle.std.proofs.Common.{◌≡◌, ℕ, zero, suc, ◌+◌, ◌≤◌, Bool, true, false, cond, not, List, [], ◌∷◌, Some, None}
use Rattle.std.proofs.Common.{Option, sym, refl, ap, ◌∙◌, subst, arith}
use Rattle.std.proofs.lemmas.Bool.{and_parts, eqb-false, or_parts, not-true}
use Rattle.std.proofs.lemmas.Option.{same_Some}
use Rattle.vocabulary.specs.declared.operators.Connective.{Connective}
use Rattle.vocabulary.specs.declared.types.DType.{DType}
use Rattle.meaning.specs.Columns.{Schemas}
use Rattle.meaning.specs.Hosts.{Answer, nothing, child, constant, other, Meaning}
use Rattle.meaning.specs.Kleene.{decides, deciding}
use Rattle.meaning.specs.Lawful.{among, distinct, answer_once, Lawful}
use Rattle.meaning.specs.Literals.{lit, literal_of, literals_of, has_null_literal, Seen, sees_truth, sees_null}
use Rattle.meaning.specs.Literals.{sees_other, seen}
use Rattle.meaning.specs.Optimizing.{rounds, map_all, map_children, optimize}
use Rattle.meaning.specs.Rules.{widen_as, widen, simplify_logic, pick_children, answer_tree, simplify}
use Rattle.meaning.specs.Trees.{root, literal, get_item, cast, compare, compute, between, call, Expr, logic, node}
use Rattle.meaning.specs.Trees.{Exprs, nil, cons, nth_child, size, sizes}
use Rattle.meaning.specs.Typing.{typed, typed_all}
use Rattle.meaning.specs.Values.{Value, null, bool, boolean}
use Rattle.meaning.proofs.CaseSplits.{none_some, and_then_some, mapped_some}
use Rattle.meaning.proofs.RoundsOfRules.{rounds_relate}

-- the number at a place, 0 outside
abbrev weight_at : List ℕ → ℕ → ℕ
weight_at [] i = 0
weight_at (w ∷ ws) zero = w
weight_at (w ∷ ws) (suc i) = weight_at ws i

abbrev sum : List ℕ → ℕ
sum [] = 0
sum (w ∷ ws) = w + sum ws

-- the numbers at the places, added up
abbrev sum_at : List ℕ → List ℕ → ℕ
sum_at ws [] = 0
sum_at ws (i ∷ is) = weight_at ws i + sum_at ws is

-- the list with 0 at the place
abbrev without : List ℕ → ℕ → List ℕ
without [] i = []
without (w ∷ ws) zero = 0 ∷ ws
without (w ∷ ws) (suc i) = w ∷ without ws i

weight_without : (ws : List ℕ) (i j : ℕ) → (i ≡ j → ⊥) → weight_at (without ws i) j ≡ weight_at ws j
weight_without [] i j n = refl
weight_without (w ∷ ws) zero zero n = absurd (n refl)
weight_without (w ∷ ws) zero (suc j) n = refl
weight_without (w ∷ ws) (suc i) zero n = refl
weight_without (w ∷ ws) (suc i) (suc j) n = weight_without ws i j (λ e. n (ap suc e))

sum_without : (ws : List ℕ) (i : ℕ) → weight_at ws i + sum (without ws i) ≡ sum ws
sum_without [] i = refl
sum_without (w ∷ ws) zero = omega arith
sum_without (w ∷ ws) (suc i) = omega (arith, sum_without ws i)

sum_at_without : (ws : List ℕ) (i : ℕ) (is : List ℕ) → among i is ≡ false → sum_at (without ws i) is ≡ sum_at ws is
sum_at_without ws i [] h = refl
sum_at_without ws i (j ∷ is) h =
    let (a, b) = or_parts _ _ h in
    simp (weight_without ws i j (eqb-false i j a), sum_at_without ws i is b)

-- numbers at different places come to no more than all
distinct_sum : (ws is : List ℕ) → distinct is ≡ true → sum_at ws is ≤ sum ws
distinct_sum ws [] h = omega arith
distinct_sum ws (i ∷ is) h =
    let p = and_parts (not (among i is)) (distinct is) h in
    omega (arith, sum_without ws i, sum_at_without ws i is (not-true _ p.0), distinct_sum (without ws i) is p.1)

-- the size of each child
abbrev weights : Exprs → List ℕ
weights nil = []
weights (cons e es) = size e ∷ weights es

sum_weights : (es : Exprs) → sum (weights es) ≡ sizes es
sum_weights nil = refl
sum_weights (cons e es) = ap (λ (z : ℕ). size e + z) (sum_weights es)

nth_weight : (es : Exprs) (i : ℕ) (d : Expr) → nth_child es i ≡ Some d → size d ≡ weight_at (weights es) i
nth_weight nil i d h = none_some d h
nth_weight (cons e es) zero d h = ap size (sym (same_Some _ _ h))
nth_weight (cons e es) (suc i) d h = nth_weight es i d h

-- the sizes of picked children
pick_weights : (es : Exprs) (is : List ℕ) (ds : Exprs) → pick_children es is ≡ Some ds
    → sizes ds ≡ sum_at (weights es) is
pick_weights es [] ds h = ap sizes (sym (same_Some _ _ h))
pick_weights es (i ∷ is) ds h =
    let (d, a, h1) = and_then_some (nth_child es i) _ ds h in
    let (rest, b, h2) = and_then_some (pick_children es is) _ ds h1 in
    ap sizes (sym (same_Some _ _ h2)) ∙ omega (arith, nth_weight es i d a, pick_weights es is rest b)

-- a child is no larger than all
nth_size : (es : Exprs) (i : ℕ) (d : Expr) → nth_child es i ≡ Some d → size d ≤ sizes es
nth_size nil i d h = none_some d h
nth_size (cons e es) zero d h = subst (λ (z : Expr). size z ≤ size e + sizes es) (same_Some _ _ h) (omega arith)
nth_size (cons e es) (suc i) d h = omega (arith, nth_size es i d h)

-- an operand at the nullability of its node is at most one node larger
widen_size : (n k : Bool) (e : Expr) (l : Option Value) → size (widen_as n k e l) ≤ suc (size e)
widen_size n k e (Some v) = omega arith
widen_size true true e None = omega arith
widen_size true false e None = omega arith
widen_size false k e None = omega arith

drop_size : (c : Bool) (o : Connective) (n k : Bool) (e : Expr)
    → size (cond c (lit (boolean n) (bool (deciding o))) (widen n k e)) ≤ suc (size e)
drop_size true o n k e = omega arith
drop_size false o n k e = widen_size n k e (literal_of e)

-- what simplify answers at And and Or is no larger
logic_size : (o : Connective) (n ka kb : Bool) (a b d : Expr) (s t : Seen) → simplify_logic o n ka kb a b s t ≡ Some d
    → size d ≤ suc (size a + size b)
logic_size o n ka kb a b d (sees_truth x) t h =
    subst (λ (z : Expr). size z ≤ suc (size a + size b)) (same_Some _ _ h)
    (omega (arith, drop_size (decides o x) o n kb b))
logic_size o n ka kb a b d sees_null (sees_truth y) h =
    subst (λ (z : Expr). size z ≤ suc (size a + size b)) (same_Some _ _ h)
    (omega (arith, drop_size (decides o y) o n ka a))
logic_size o n ka kb a b d sees_null sees_null h =
    subst (λ (z : Expr). size z ≤ suc (size a + size b)) (same_Some _ _ h)
    (omega (arith, widen_size n ka a (literal_of a)))
logic_size o n ka kb a b d sees_null sees_other h = none_some d h
logic_size o n ka kb a b d sees_other (sees_truth y) h =
    subst (λ (z : Expr). size z ≤ suc (size a + size b)) (same_Some _ _ h)
    (omega (arith, drop_size (decides o y) o n ka a))
logic_size o n ka kb a b d sees_other sees_null h = none_some d h
logic_size o n ka kb a b d sees_other sees_other h = none_some d h

null_size : (b : Bool) (d : Expr) (n : ℕ) → cond b (Some (lit (boolean true) null)) None ≡ Some d → size d ≤ suc n
null_size true d n h = subst (λ (z : Expr). size z ≤ suc n) (same_Some _ _ h) (omega arith)
null_size false d n h = none_some d h

-- an answer that has each child at most once is no larger than the call
answer_size : (t : DType) (es : Exprs) (d : Expr) (x : Answer) → answer_once x ≡ true → answer_tree t es x ≡ Some d
    → size d ≤ suc (sizes es)
answer_size t es d nothing p h = none_some d h
answer_size t es d (child i) p h = omega (arith, nth_size es i d h)
answer_size t es d (constant v) p h = subst (λ (z : Expr). size z ≤ suc (sizes es)) (same_Some _ _ h) (omega arith)
answer_size t es d (other c is) p h =
    let (ds, a, e) = mapped_some (node (call c)) (pick_children es is) d h in
    subst (λ (z : Expr). size z ≤ suc (sizes es)) e
    (omega (arith, pick_weights es is ds a, distinct_sum (weights es) is p, sum_weights es))

module _ (m : Meaning) (law : Lawful m) (ss : Schemas) where
  -- what simplify answers is no larger
  simplify_size : (e d : Expr) → simplify m ss e ≡ Some d → size d ≤ size e
  unfolding simplify
  simplify_size (logic o a b) d h = logic_size o _ _ _ a b d (seen a) (seen b) h
  simplify_size (node (root s) es) d h = none_some d h
  simplify_size (node (literal s v) es) d h = none_some d h
  simplify_size (node (get_item n) es) d h = none_some d h
  simplify_size (node (cast s) es) d h = none_some d h
  simplify_size (node (compare c) es) d h = null_size (has_null_literal es) d (sizes es) h
  simplify_size (node (compute o) es) d h = none_some d h
  simplify_size (node (between o) es) d h = none_some d h
  simplify_size (node (call c) es) d h =
      let (ts, a, h1) = and_then_some (typed_all m ss es) _ d h in
      let (t, b, h2) = and_then_some (typed m ss (node (call c) es)) _ d h1 in
      answer_size t es d (m.rule c ts (literals_of es)) (law.once c ts (literals_of es)) h2

  rounds_size : (k : ℕ) (e d : Expr) → rounds m ss k e ≡ Some d → size d ≤ size e
  rounds_size = rounds_relate m ss (λ a b. size b ≤ size a) (λ a. omega arith) (λ a b c p q. omega arith) simplify_size

  all_size : (f : Expr → Option Expr) → ((e d : Expr) → f e ≡ Some d → size d ≤ size e) → (es ds : Exprs)
      → map_all f es ≡ Some ds → sizes ds ≤ sizes es
  all_size f g nil ds h = subst (λ (z : Exprs). sizes z ≤ 0) (same_Some _ _ h) (omega arith)
  all_size f g (cons e es) ds h =
      let (d, a, h1) = and_then_some (f e) _ ds h in
      let (rest, b, h2) = and_then_some (map_all f es) _ ds h1 in
      subst (λ (z : Exprs). sizes z ≤ size e + sizes es) (same_Some _ _ h2)
      (omega (arith, g e d a, all_size f g es rest b))

  -- a node over answers that are no larger
  children_size : (f : Expr → Option Expr) → ((e d : Expr) → f e ≡ Some d → size d ≤ size e) → (e d : Expr)
      → map_children f e ≡ Some d → size d ≤ size e
  children_size f g (logic o a b) d h =
      let (c, ha, h1) = and_then_some (f a) _ d h in
      let (e, hb, h2) = and_then_some (f b) _ d h1 in
      subst (λ (z : Expr). size z ≤ suc (size a + size b)) (same_Some _ _ h2) (omega (arith, g a c ha, g b e hb))
  children_size f g (node k es) d h =
      let (ds, hs, h1) = and_then_some (map_all f es) _ d h in
      subst (λ (z : Expr). size z ≤ suc (sizes es)) (same_Some _ _ h1) (omega (arith, all_size f g es ds hs))

  -- what optimizing gives is no larger
  pub optimize_size : (k : ℕ) (e d : Expr) → optimize m ss k e ≡ Some d → size d ≤ size e
  unfolding optimize
  optimize_size zero e d h = none_some d h
  optimize_size (suc k) e d h =
      let (a, ha, h1) = and_then_some (rounds m ss 100 e) _ d h in
      let (b, hb, h2) = and_then_some (map_children (optimize m ss k) a) _ d h1 in
      omega (
        arith,
        rounds_size 100 e a ha,
        children_size (optimize m ss k) (optimize_size k) a b hb,
        rounds_size 100 b d h2,
      )
