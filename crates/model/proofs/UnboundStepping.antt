-- Steps keep an unbound arena sound, and leave its older nodes as they were.
use Rattle.std.proofs.Common.{◌≡◌, ℕ, zero, suc, ◌≤◌, min, List, [], ◌∷◌, length, Some, None, Ok, Err, Option, Result}
use Rattle.std.proofs.Common.{sym, refl, ◌∙◌, subst, arith}
use Rattle.vocabulary.specs.declared.nodes.Function.{Function}
use Rattle.vocabulary.specs.declared.nodes.Function.TheVariants.{Root, Literal, GetItem, Cast, Binary, Between, Host}
use Rattle.vocabulary.specs.Nodes.{BoundNode as Node}
use Rattle.vocabulary.specs.declared.refusals.Refusal.{Refusal}
use Rattle.meaning.proofs.CaseSplits.{none_some}
use Rattle.model.specs.Wanted.{new_bytes}
use Rattle.model.specs.Making.{Plan, new_plan}
use Rattle.model.specs.Rebuilding.{old_plan}
use Rattle.model.specs.Steps.{Step, makes, rebuilds, numbers, count}
use Rattle.vocabulary.specs.Nodes.{UnboundNode, untyped}
use Rattle.model.specs.Unbound.{UnboundStore, unbound_at, unbound_grown, seen}
use Rattle.model.specs.Unbound.{against, tree_for}
use Rattle.model.specs.UnboundMaking.{build_unbound, entered_unbound, itself_or_new, rebuilt_unbound}
use Rattle.model.specs.UnboundMaking.{perform_unbound}
use Rattle.model.specs.UnboundSoundness.{SoundUnbound}
use Rattle.model.specs.LawsOfUnbound.{EmptyUnboundIsSound, UnboundStepsKeepSound, UnboundNodesStay}
use Rattle.model.specs.LawsOfUnbound.{UnboundRefusalsChangeNothing}
use Rattle.model.proofs.Children.{err_ok}
use Rattle.model.proofs.UnboundPlans.{BuiltUnbound, built_unbound, HonestUnbound, new_honest_unbound}
use Rattle.model.proofs.UnboundPlans.{old_honest_unbound}
use Rattle.model.proofs.UnboundGrowing.{unbound_stays, tree_for_stays, unbound_grown_sound}
use Rattle.model.specs.Stores.{node_among}
use Rattle.model.proofs.Numbers.{node_below}

pub empty_unbound_is_sound : EmptyUnboundIsSound
unfolding node_among
empty_unbound_is_sound records bytes = record {
  each = λ q n x e. none_some x e;
  records_within = omega arith;
  text_within = omega arith;
}

-- how a step can leave an arena: as it was, or grown by a granted plan
data Left (u : UnboundStore) : UnboundStore → Type 0 where
  same : Left u u
  more : (p : Plan) (x : Node) → HonestUnbound p u → min p.count 8 ≤ length p.children → BuiltUnbound p u x
      → Left u (unbound_grown (untyped x) p.adds u)

module _ (u : UnboundStore) (sound : SoundUnbound u) where
  entered_left : (p : Plan) (bs : List ℕ) → bs ≡ p.adds → HonestUnbound p u → min p.count 8 ≤ length p.children
      → (r : Result Node Refusal) → build_unbound p u ≡ r → Left u (entered_unbound bs u r).1
  entered_left p bs e h l (Ok x) b =
      subst (λ (z : List ℕ). Left u (unbound_grown (untyped x) z u)) (sym e) (more p x h l (built_unbound p u x b))
  entered_left p bs e h l (Err r) b = same

  itself_left : (k : ℕ) (f : Function) (n : ℕ) (anew : Result ℕ Refusal × UnboundStore) → Left u anew.1
      → Left u (itself_or_new k f n u anew).1
  itself_left k Root zero anew l = same
  itself_left k Root (suc n) anew l = l
  itself_left k (Literal t v) n anew l = l
  itself_left k (GetItem name) n anew l = l
  itself_left k (Cast t) n anew l = l
  itself_left k (Binary o) n anew l = l
  itself_left k (Between o) n anew l = l
  itself_left k (Host c) n anew l = l

  rebuilt_left : (k : ℕ) (o : Option UnboundNode) → unbound_at u k ≡ o → (cs : List ℕ) (n : ℕ) → min n 8 ≤ length cs
      → Left u (rebuilt_unbound k o cs n u).1
  rebuilt_left k None e cs n l = same
  rebuilt_left k (Some x) e cs n l =
      itself_left k x.function n _
      (entered_left (old_plan k (seen 0 x) cs n (against 0 u)) [] refl
      (old_honest_unbound u k x cs n (sound.each 0 k x e).ends) l _ refl)

  step_left : (c : Step) → min (count c) 8 ≤ length (numbers c) → Left u (perform_unbound c u).1
  step_left (makes w cs n) l =
      entered_left (new_plan w cs n (against 0 u)) (new_bytes w) refl (new_honest_unbound u w cs n) l _ refl
  step_left (rebuilds k cs n) l = rebuilt_left k (unbound_at u k) refl cs n l

  left_sound : {later : UnboundStore} → Left u later → SoundUnbound later
  left_sound same = sound
  left_sound (more p x h l b) = unbound_grown_sound u sound p h l x b

  left_stays : {later : UnboundStore} → Left u later → (k : ℕ) (x : UnboundNode) → unbound_at u k ≡ Some x
      → (unbound_at later k ≡ Some x) × ((q : ℕ) → tree_for q later k ≡ tree_for q u k)
  left_stays same k x e = (e, λ q. refl)
  left_stays (more p y h l b) k x e = (
    unbound_stays u sound (untyped y) p.adds k x e,
    λ q. tree_for_stays u sound (untyped y) p.adds q k (node_below u.nodes k x e),
  )

pub unbound_steps_keep_sound : UnboundStepsKeepSound
unbound_steps_keep_sound u sound [] h = sound
unbound_steps_keep_sound u sound (c ∷ cs) h =
    unbound_steps_keep_sound (perform_unbound c u).1 (left_sound u sound (step_left u sound c h.0)) cs h.1

pub unbound_nodes_stay : UnboundNodesStay
unbound_nodes_stay u sound [] h k x e = (e, λ q. refl)
unbound_nodes_stay u sound (c ∷ cs) h k x e =
    let l = step_left u sound c h.0 in
    let (a, b) = left_stays u sound l k x e in
    let (a2, b2) = unbound_nodes_stay (perform_unbound c u).1 (left_sound u sound l) cs h.1 k x a in
    (a2, λ q. b2 q ∙ b q)

-- a refusal changes nothing
entered_same : (bs : List ℕ) (u : UnboundStore) (a : Result Node Refusal) (r : Refusal)
    → (entered_unbound bs u a).0 ≡ Err r → (entered_unbound bs u a).1 ≡ u
entered_same bs u (Ok x) r e = err_ok r _ (sym e)
entered_same bs u (Err q) r e = refl

itself_same : (k : ℕ) (f : Function) (n : ℕ) (u : UnboundStore) (anew : Result ℕ Refusal × UnboundStore) (r : Refusal)
    → (anew.0 ≡ Err r → anew.1 ≡ u) → (itself_or_new k f n u anew).0 ≡ Err r → (itself_or_new k f n u anew).1 ≡ u
itself_same k Root zero u anew r h e = refl
itself_same k Root (suc n) u anew r h e = h e
itself_same k (Literal t v) n u anew r h e = h e
itself_same k (GetItem name) n u anew r h e = h e
itself_same k (Cast t) n u anew r h e = h e
itself_same k (Binary o) n u anew r h e = h e
itself_same k (Between o) n u anew r h e = h e
itself_same k (Host c) n u anew r h e = h e

rebuilt_same : (k : ℕ) (o : Option UnboundNode) (cs : List ℕ) (n : ℕ) (u : UnboundStore) (r : Refusal)
    → (rebuilt_unbound k o cs n u).0 ≡ Err r → (rebuilt_unbound k o cs n u).1 ≡ u
rebuilt_same k None cs n u r e = refl
rebuilt_same k (Some x) cs n u r e = itself_same k x.function n u _ r (entered_same [] u _ r) e

pub unbound_refusals_change_nothing : UnboundRefusalsChangeNothing
unbound_refusals_change_nothing (makes w cs n) u r e = entered_same (new_bytes w) u _ r e
unbound_refusals_change_nothing (rebuilds k cs n) u r e = rebuilt_same k (unbound_at u k) cs n u r e
