-- Rounds are steps of simplify: reduce answers as simplify does.
use Rattle.std.proofs.Common.{◌≡◌, ℕ, zero, suc, Bool, true, false, cond, ◌⊎◌, Some, None, Option, sym, refl, ap, ◌∙◌}
use Rattle.std.proofs.Common.{subst, inl, inr}
use Rattle.std.proofs.lemmas.Option.{same_Some}
use Rattle.vocabulary.specs.declared.operators.Connective.{Connective}
use Rattle.vocabulary.specs.declared.operators.Connective.TheVariants.{And, Or}
use Rattle.meaning.specs.Columns.{Schemas}
use Rattle.meaning.specs.Hosts.{Meaning}
use Rattle.meaning.specs.Kleene.{lut, decides, deciding}
use Rattle.meaning.specs.LawsOfOptimizing.{Changing}
use Rattle.meaning.specs.Literals.{lit, literal_of, Seen, sees_truth, sees_null, sees_other, seen}
use Rattle.meaning.specs.Optimizing.{or_itself, round_by, round, rounds_step, rounds}
use Rattle.meaning.specs.Rules.{widen_as, widen, simplify_logic, reduce_logic, simplify, reduce}
use Rattle.meaning.specs.Trees.{Expr, logic, node}
use Rattle.meaning.specs.Values.{bool, boolean}
use Rattle.meaning.proofs.CaseSplits.{none_some, some_none}
use Rattle.meaning.proofs.LiteralOperands.{seen_truth}

-- a literal truth at the node's nullability is the literal of it
truth_widens : (n k : Bool) (b : Expr) (y : Bool) → seen b ≡ sees_truth y → widen n k b ≡ lit (boolean n) (bool y)
truth_widens n k b y s = ap (widen_as n k b) (seen_truth (literal_of b) y s)

-- the two-valued table gives what dropping a truth leaves
lut_drops : (o : Connective) (x y n : Bool)
    → lit (boolean n) (bool (lut o x y))
    ≡ cond (decides o x) (lit (boolean n) (bool (deciding o))) (lit (boolean n) (bool y))
lut_drops And true y n = refl
lut_drops And false y n = refl
lut_drops Or true y n = refl
lut_drops Or false y n = refl

reduce_as : (o : Connective) (n ka kb : Bool) (a b d : Expr) (s t : Seen) → seen a ≡ s → seen b ≡ t
    → reduce_logic o n ka kb a b s t ≡ Some d → simplify_logic o n ka kb a b s t ≡ Some d
reduce_as o n ka kb a b d (sees_truth x) (sees_truth y) sa sb h =
    ap (λ (z : Expr). Some (cond (decides o x) (lit (boolean n) (bool (deciding o))) z)) (truth_widens n kb b y sb)
    ∙ ap Some (sym (lut_drops o x y n))
    ∙ h
reduce_as o n ka kb a b d (sees_truth x) sees_null sa sb h = h
reduce_as o n ka kb a b d (sees_truth x) sees_other sa sb h = h
reduce_as o n ka kb a b d sees_null (sees_truth y) sa sb h = h
reduce_as o n ka kb a b d sees_null sees_null sa sb h = none_some d h
reduce_as o n ka kb a b d sees_null sees_other sa sb h = none_some d h
reduce_as o n ka kb a b d sees_other (sees_truth y) sa sb h = h
reduce_as o n ka kb a b d sees_other sees_null sa sb h = none_some d h
reduce_as o n ka kb a b d sees_other sees_other sa sb h = none_some d h

-- where reduce answers, simplify gives the same
pub reduce_simplify : (m : Meaning) (ss : Schemas) (e d : Expr) → reduce m ss e ≡ Some d → simplify m ss e ≡ Some d
unfolding simplify reduce
reduce_simplify m ss (logic o a b) d h = reduce_as o _ _ _ a b d (seen a) (seen b) refl refl h
reduce_simplify m ss (node f es) d h = none_some d h

module _ (m : Meaning) (ss : Schemas) where
  -- a round is one step of simplify, or two
  round_steps : (e d : Expr) → round m ss e ≡ Some d
      → (simplify m ss e ≡ Some d) ⊎ ((c : Expr) × (simplify m ss e ≡ Some c) × (simplify m ss c ≡ Some d))
  unfolding round
  round_steps e d h = first (simplify m ss e) refl h
    where
      then_reduce : (c : Expr) (x : Option Expr) → simplify m ss e ≡ Some c → reduce m ss c ≡ x → or_itself c x ≡ d
          → (simplify m ss e ≡ Some d) ⊎ ((c : Expr) × (simplify m ss e ≡ Some c) × (simplify m ss c ≡ Some d))
      then_reduce c None s i j = inl (s ∙ ap Some j)
      then_reduce c (Some b) s i j = inr (c, s, reduce_simplify m ss c b i ∙ ap Some j)

      first : (x : Option Expr) → simplify m ss e ≡ x → round_by x (reduce m ss) e ≡ Some d
          → (simplify m ss e ≡ Some d) ⊎ ((c : Expr) × (simplify m ss e ≡ Some c) × (simplify m ss c ≡ Some d))
      first None i h = inl (reduce_simplify m ss e d h)
      first (Some c) i h = then_reduce c (reduce m ss c) i refl (same_Some _ _ h)

  -- a relation that is reflexive and transitive and holds of each step of simplify holds of rounds
  module _ (R : Expr → Expr → Type 0) (self : (e : Expr) → R e e) (next : (a b c : Expr) → R a b → R b c → R a c)
      (step : (e d : Expr) → simplify m ss e ≡ Some d → R e d) where
    pub round_relates : (e d : Expr) → round m ss e ≡ Some d → R e d
    round_relates e d h =
        elim (round_steps e d h)
        [ inl s ↦ step e d s | inr s ↦ next e s.0 d (step e s.0 s.1) (step s.0 d s.2) ]

    step_relates : (more : Expr → Option Expr) → ((e d : Expr) → more e ≡ Some d → R e d)
        → (e d : Expr) (x : Option Expr) → round m ss e ≡ x → rounds_step more e x ≡ Some d → R e d
    step_relates more f e d None i h = subst (R e) (same_Some _ _ h) (self e)
    step_relates more f e d (Some c) i h = next e c d (round_relates e c i) (f c d h)

    pub rounds_relate : (k : ℕ) (e d : Expr) → rounds m ss k e ≡ Some d → R e d
    unfolding rounds
    rounds_relate zero e d h = step_relates (λ c. None) (λ a b i. none_some b i) e d (round m ss e) refl h
    rounds_relate (suc k) e d h = step_relates (rounds m ss k) (rounds_relate k) e d (round m ss e) refl h

  step_ends : (more : Expr → Option Expr) → ((e d : Expr) → more e ≡ Some d → round m ss d ≡ None)
      → (e d : Expr) (x : Option Expr) → round m ss e ≡ x → rounds_step more e x ≡ Some d → round m ss d ≡ None
  step_ends more f e d None i h = subst (λ (z : Expr). round m ss z ≡ None) (same_Some _ _ h) i
  step_ends more f e d (Some c) i h = f c d h

  -- rounds end where none changes the expression
  pub rounds_end : (k : ℕ) (e d : Expr) → rounds m ss k e ≡ Some d → round m ss d ≡ None
  unfolding rounds
  rounds_end zero e d h = step_ends (λ c. None) (λ a b i. none_some b i) e d (round m ss e) refl h
  rounds_end (suc k) e d h = step_ends (rounds m ss k) (rounds_end k) e d (round m ss e) refl h

  -- an expression that no round changes is its own answer
  pub rounds_rest : (k : ℕ) (e : Expr) → round m ss e ≡ None → rounds m ss k e ≡ Some e
  unfolding rounds
  rounds_rest zero e h = ap (rounds_step (λ (d : Expr). None) e) h
  rounds_rest (suc k) e h = ap (rounds_step (rounds m ss k) e) h

  round_none : (e : Expr) (x : Option Expr) → simplify m ss e ≡ x → round_by x (reduce m ss) e ≡ None
      → (simplify m ss e ≡ None) × (reduce m ss e ≡ None)
  round_none e None i h = (i, h)
  round_none e (Some d) i h = some_none _ h

  -- where no round changes, no rule fires
  pub no_round : (e : Expr) → round m ss e ≡ None → (simplify m ss e ≡ None) × (reduce m ss e ≡ None)
  unfolding round
  no_round e h = round_none e (simplify m ss e) refl h

  step_over : (more : Expr → Option Expr) (j : ℕ) → ((e : Expr) → more e ≡ None → Changing m ss j e)
      → (e : Expr) (x : Option Expr) → round m ss e ≡ x → rounds_step more e x ≡ None → Changing m ss (suc j) e
  step_over more j f e None i h = some_none e h
  step_over more j f e (Some d) i h = (d, i, f d h)

  -- rounds that do not end change the expression once more than they may
  pub rounds_over : (k : ℕ) (e : Expr) → rounds m ss k e ≡ None → Changing m ss (suc k) e
  unfolding rounds
  rounds_over zero e h = step_over (λ d. None) 0 (λ d i. tt) e (round m ss e) refl h
  rounds_over (suc k) e h = step_over (rounds m ss k) (suc k) (rounds_over k) e (round m ss e) refl h
