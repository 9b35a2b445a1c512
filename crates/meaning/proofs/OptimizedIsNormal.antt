-- No rule fires in an optimized expression, and optimizing it again changes nothing.
use Rattle.std.proofs.Common.{◌≡◌, ℕ, zero, suc, Bool, true, false, cond, List, [], ◌∷◌, Some, None, Option, refl}
use Rattle.std.proofs.Common.{subst}
use Rattle.std.proofs.lemmas.Option.{same_Some}
use Rattle.vocabulary.specs.declared.operators.Connective.{Connective}
use Rattle.vocabulary.specs.declared.types.DType.{DType}
use Rattle.meaning.specs.Columns.{Schemas}
use Rattle.meaning.specs.Hosts.{Answer, nothing, child, constant, other, Meaning}
use Rattle.meaning.specs.Kleene.{decides, deciding}
use Rattle.meaning.specs.LawsOfOptimizing.{Normal, Normals, OptimizedIsNormal}
use Rattle.meaning.specs.Literals.{lit, literal_of, literals_of, has_null_literal, Seen, sees_truth, sees_null}
use Rattle.meaning.specs.Literals.{sees_other, seen}
use Rattle.meaning.specs.Optimizing.{round, rounds, map_all, map_children, optimize}
use Rattle.meaning.specs.Rules.{widen_as, widen, simplify_logic, pick_children, answer_tree, simplify}
use Rattle.meaning.specs.Trees.{root, literal, get_item, cast, compare, compute, between, call, Expr, logic, node}
use Rattle.meaning.specs.Trees.{Exprs, nil, cons, nth_child}
use Rattle.meaning.specs.Typing.{typed, typed_all}
use Rattle.meaning.specs.Values.{Value, null, bool, boolean}
use Rattle.meaning.proofs.CaseSplits.{none_some, and_then_some, mapped_some}
use Rattle.meaning.proofs.RoundsOfRules.{rounds_relate, rounds_end, rounds_rest, no_round}

-- each of the children has P
abbrev pub AllOf : (Expr → Type 0) → Exprs → Type 0
AllOf P nil = Unit {0}
AllOf P (cons e es) = P e × AllOf P es

-- each child of the expression has P
abbrev pub Children : (Expr → Type 0) → Expr → Type 0
Children P (logic o a b) = P a × P b
Children P (node f es) = AllOf P es

all_mono : (P Q : Expr → Type 0) → ((e : Expr) → P e → Q e) → (es : Exprs) → AllOf P es → AllOf Q es
all_mono P Q f nil h = tt
all_mono P Q f (cons e es) h = (f e h.0, all_mono P Q f es h.1)

-- what follows for each child
pub children_mono : (P Q : Expr → Type 0) → ((e : Expr) → P e → Q e) → (e : Expr) → Children P e → Children Q e
children_mono P Q f (logic o a b) h = (f a h.0, f b h.1)
children_mono P Q f (node g es) h = all_mono P Q f es h

module _ (m : Meaning) (ss : Schemas) where
  -- at most so many levels, at each of which no round changes
  abbrev pub Still : ℕ → Expr → Type 0
  Still zero e = ⊥
  Still (suc k) e = (round m ss e ≡ None) × Children (Still k) e

  -- more levels allow as much
  still_mono : (k : ℕ) (e : Expr) → Still k e → Still (suc k) e
  still_mono zero e h = absurd h
  still_mono (suc k) e h = (h.0, children_mono (Still k) (Still (suc k)) (still_mono k) e h.1)

  -- the children of a still expression are still
  still_children : (k : ℕ) (e : Expr) → Still k e → Children (Still k) e
  still_children zero e h = absurd h
  still_children (suc k) e h = children_mono (Still k) (Still (suc k)) (still_mono k) e h.1

  module _ (P : Expr → Type 0) (down : (e : Expr) → P e → Children P e) where
    widen_children : (n k : Bool) (e : Expr) (l : Option Value) → P e → Children P (widen_as n k e l)
    widen_children n k e (Some v) h = tt
    widen_children true true e None h = down e h
    widen_children true false e None h = (h, tt)
    widen_children false k e None h = down e h

    drop_children : (c : Bool) (o : Connective) (n k : Bool) (e : Expr) → P e
        → Children P (cond c (lit (boolean n) (bool (deciding o))) (widen n k e))
    drop_children true o n k e h = tt
    drop_children false o n k e h = widen_children n k e (literal_of e) h

    logic_children : (o : Connective) (n ka kb : Bool) (a b d : Expr) (s t : Seen) → P a → P b
        → simplify_logic o n ka kb a b s t ≡ Some d → Children P d
    logic_children o n ka kb a b d (sees_truth x) t pa pb h =
        subst (Children P) (same_Some _ _ h) (drop_children (decides o x) o n kb b pb)
    logic_children o n ka kb a b d sees_null (sees_truth y) pa pb h =
        subst (Children P) (same_Some _ _ h) (drop_children (decides o y) o n ka a pa)
    logic_children o n ka kb a b d sees_null sees_null pa pb h =
        subst (Children P) (same_Some _ _ h) (widen_children n ka a (literal_of a) pa)
    logic_children o n ka kb a b d sees_null sees_other pa pb h = none_some d h
    logic_children o n ka kb a b d sees_other (sees_truth y) pa pb h =
        subst (Children P) (same_Some _ _ h) (drop_children (decides o y) o n ka a pa)
    logic_children o n ka kb a b d sees_other sees_null pa pb h = none_some d h
    logic_children o n ka kb a b d sees_other sees_other pa pb h = none_some d h

    null_children : (b : Bool) (d : Expr) → cond b (Some (lit (boolean true) null)) None ≡ Some d → Children P d
    null_children true d h = subst (Children P) (same_Some _ _ h) tt
    null_children false d h = none_some d h

    nth_child_has : (es : Exprs) (i : ℕ) (d : Expr) → AllOf P es → nth_child es i ≡ Some d → P d
    nth_child_has nil i d p h = none_some d h
    nth_child_has (cons e es) zero d p h = subst P (same_Some _ _ h) p.0
    nth_child_has (cons e es) (suc i) d p h = nth_child_has es i d p.1 h

    picked_have : (es : Exprs) (is : List ℕ) (ds : Exprs) → AllOf P es → pick_children es is ≡ Some ds → AllOf P ds
    picked_have es [] ds p h = subst (AllOf P) (same_Some _ _ h) tt
    picked_have es (i ∷ is) ds p h =
        let (d, a, h1) = and_then_some (nth_child es i) _ ds h in
        let (rest, b, h2) = and_then_some (pick_children es is) _ ds h1 in
        subst (AllOf P) (same_Some _ _ h2) (nth_child_has es i d p a, picked_have es is rest p b)

    answer_children : (t : DType) (es : Exprs) (d : Expr) (x : Answer) → AllOf P es → answer_tree t es x ≡ Some d
        → Children P d
    answer_children t es d nothing p h = none_some d h
    answer_children t es d (child i) p h = down d (nth_child_has es i d p h)
    answer_children t es d (constant v) p h = subst (Children P) (same_Some _ _ h) tt
    answer_children t es d (other c is) p h =
        let (ds, a, e) = mapped_some (node (call c)) (pick_children es is) d h in
        subst (Children P) e (picked_have es is ds p a)

    -- where the children of an expression have P, so do those of what simplify answers
    simplify_children : (e d : Expr) → Children P e → simplify m ss e ≡ Some d → Children P d
    unfolding simplify
    simplify_children (logic o a b) d p h = logic_children o _ _ _ a b d (seen a) (seen b) p.0 p.1 h
    simplify_children (node (root s) es) d p h = none_some d h
    simplify_children (node (literal s v) es) d p h = none_some d h
    simplify_children (node (get_item n) es) d p h = none_some d h
    simplify_children (node (cast s) es) d p h = none_some d h
    simplify_children (node (compare c) es) d p h = null_children (has_null_literal es) d h
    simplify_children (node (compute o) es) d p h = none_some d h
    simplify_children (node (between o) es) d p h = none_some d h
    simplify_children (node (call c) es) d p h =
        let (ts, a, h1) = and_then_some (typed_all m ss es) _ d h in
        let (t, b, h2) = and_then_some (typed m ss (node (call c) es)) _ d h1 in
        answer_children t es d (m.rule c ts (literals_of es)) p h2

    -- so rounds keep it, and end where none changes the expression
    pub rounds_children : (k : ℕ) (e d : Expr) → Children P e → rounds m ss k e ≡ Some d
        → (round m ss d ≡ None) × Children P d
    rounds_children k e d p h = (
      rounds_end m ss k e d h,
      rounds_relate m ss (λ a b. Children P a → Children P b) (λ a q. q) (λ a b c f g q. g (f q))
          (λ a b s q. simplify_children a b q s) k e d h p,
    )

  all_answers : (P : Expr → Type 0) (f : Expr → Option Expr) → ((e d : Expr) → f e ≡ Some d → P d) → (es ds : Exprs)
      → map_all f es ≡ Some ds → AllOf P ds
  all_answers P f g nil ds h = subst (AllOf P) (same_Some _ _ h) tt
  all_answers P f g (cons e es) ds h =
      let (d, a, h1) = and_then_some (f e) _ ds h in
      let (rest, b, h2) = and_then_some (map_all f es) _ ds h1 in
      subst (AllOf P) (same_Some _ _ h2) (g e d a, all_answers P f g es rest b)

  -- an expression over answers that have P
  children_answers : (P : Expr → Type 0) (f : Expr → Option Expr) → ((e d : Expr) → f e ≡ Some d → P d) → (e d : Expr)
      → map_children f e ≡ Some d → Children P d
  children_answers P f g (logic o a b) d h =
      let (c, ha, h1) = and_then_some (f a) _ d h in
      let (e, hb, h2) = and_then_some (f b) _ d h1 in
      subst (Children P) (same_Some _ _ h2) (g a c ha, g b e hb)
  children_answers P f g (node k es) d h =
      let (ds, hs, h1) = and_then_some (map_all f es) _ d h in
      subst (Children P) (same_Some _ _ h1) (all_answers P f g es ds hs)

  -- optimizing ends in a still expression
  pub optimize_still : (k : ℕ) (e d : Expr) → optimize m ss k e ≡ Some d → Still k d
  unfolding optimize
  optimize_still zero e d h = none_some d h
  optimize_still (suc k) e d h =
      let (a, ha, h1) = and_then_some (rounds m ss 100 e) _ d h in
      let (b, hb, h2) = and_then_some (map_children (optimize m ss k) a) _ d h1 in
      rounds_children (Still k) (still_children k) 100 b d
      (children_answers (Still k) (optimize m ss k) (optimize_still k) a b hb) h2

  all_rest : (P : Expr → Type 0) (f : Expr → Option Expr) → ((e : Expr) → P e → f e ≡ Some e) → (es : Exprs)
      → AllOf P es → map_all f es ≡ Some es
  all_rest P f g nil h = refl
  all_rest P f g (cons e es) h = simp (g e h.0, all_rest P f g es h.1)

  children_rest : (P : Expr → Type 0) (f : Expr → Option Expr) → ((e : Expr) → P e → f e ≡ Some e) → (e : Expr)
      → Children P e → map_children f e ≡ Some e
  children_rest P f g (logic o a b) h = simp (g a h.0, g b h.1)
  children_rest P f g (node k es) h = simp (all_rest P f g es h)

  -- a still expression is its own optimum
  optimize_rest : (k : ℕ) (e : Expr) → Still k e → optimize m ss k e ≡ Some e
  unfolding optimize
  optimize_rest zero e h = absurd h
  optimize_rest (suc k) e h =
      simp (rounds_rest m ss 100 e h.0, children_rest (Still k) (optimize m ss k) (optimize_rest k) e h.1)

  all_normal : (P : Expr → Type 0) → ((e : Expr) → P e → Normal m ss e) → (es : Exprs) → AllOf P es → Normals m ss es
  all_normal P f nil h = tt
  all_normal P f (cons e es) h = (f e h.0, all_normal P f es h.1)

  -- no rule fires in a still expression
  still_normal : (k : ℕ) (e : Expr) → Still k e → Normal m ss e
  still_normal zero e h = absurd h
  still_normal (suc k) (logic o a b) h =
      (no_round m ss (logic o a b) h.0, (still_normal k a h.1.0, still_normal k b h.1.1))
  still_normal (suc k) (node f es) h =
      (no_round m ss (node f es) h.0, all_normal (Still k) (still_normal k) es h.1)

pub optimized_is_normal : OptimizedIsNormal
optimized_is_normal m ss k e d h =
    let s = optimize_still m ss k e d h in
    (still_normal m ss k d s, optimize_rest m ss k d s)
