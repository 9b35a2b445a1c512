-- Steps keep a store sound, and leave its older nodes as they were.
use Rattle.std.proofs.Common.{◌≡◌, ℕ, zero, suc, ◌≤◌, min, List, [], ◌∷◌, length, Some, None, Ok, Err, Option, Result}
use Rattle.std.proofs.Common.{sym, refl, ◌∙◌, subst, arith}
use Rattle.vocabulary.specs.declared.nodes.Function.{Function}
use Rattle.vocabulary.specs.declared.nodes.Function.TheVariants.{Root, Literal, GetItem, Cast, Binary, Between, Host}
use Rattle.vocabulary.specs.Nodes.{BoundNode as Node}
use Rattle.vocabulary.specs.declared.refusals.Refusal.{Refusal}
use Rattle.meaning.specs.Hosts.{Meaning}
use Rattle.meaning.proofs.CaseSplits.{none_some}
use Rattle.model.specs.Stores.{Store, node_among, node_at, grown}
use Rattle.model.specs.Shapes.{tree}
use Rattle.model.specs.Wanted.{New, root, literal, get_item, cast, binary, between, host, new_bytes}
use Rattle.model.specs.Making.{Plan, build, entered, schema_first, new_plan, make}
use Rattle.model.specs.Rebuilding.{old_plan, itself_or, rebuilt}
use Rattle.model.specs.Soundness.{Sound}
use Rattle.model.specs.Steps.{Step, makes, rebuilds, perform, numbers, count}
use Rattle.model.specs.LawsOfMaking.{EmptyIsSound, StepsKeepSound, NodesStay}
use Rattle.model.proofs.Numbers.{node_below}
use Rattle.model.proofs.Plans.{checked, Built, built, Honest, new_honest, old_honest}
use Rattle.model.proofs.Growing.{record_stays, tree_stays, grown_sound}

pub empty_is_sound : EmptyIsSound
unfolding node_among
empty_is_sound m ss records bytes = record {
  each = λ n x e. none_some x e;
  records_within = omega arith;
  text_within = omega arith;
}

-- a record that is granted comes from its plan
pub schema_passed : (w : New) (r : Result Node Refusal) (x : Node) → schema_first w r ≡ Ok x → r ≡ Ok x
schema_passed (root q) r x e = (checked _ _ r x e).1
schema_passed (literal t v) r x e = e
schema_passed (get_item name) r x e = e
schema_passed (cast t) r x e = e
schema_passed (binary o) r x e = e
schema_passed (between o) r x e = e
schema_passed (host c) r x e = e

-- how a step can leave a store: as it was, or grown by a granted plan
pub data Left (m : Meaning) (s : Store) : Store → Type 0 where
  same : Left m s s
  more : (p : Plan) (x : Node) → Honest m p s → min p.count 8 ≤ length p.children → Built m p s x
      → Left m s (grown x p.adds s)

module _ (m : Meaning) (s : Store) (sound : Sound m s) where
  entered_left : (p : Plan) (bs : List ℕ) → bs ≡ p.adds → Honest m p s → min p.count 8 ≤ length p.children
      → (r : Result Node Refusal) → ((x : Node) → r ≡ Ok x → build m p s ≡ Ok x) → Left m s (entered bs s r).1
  entered_left p bs e h l (Ok x) b =
      subst (λ (z : List ℕ). Left m s (grown x z s)) (sym e) (more p x h l (built m p s x (b x refl)))
  entered_left p bs e h l (Err r) b = same

  make_left : (w : New) (cs : List ℕ) (n : ℕ) → min n 8 ≤ length cs → Left m s (make m w cs n s).1
  make_left w cs n l =
      entered_left (new_plan w cs n s) (new_bytes w) refl (new_honest m s w cs n) l _
      (λ x e. schema_passed w (build m (new_plan w cs n s) s) x e)

  itself_left : (k : ℕ) (f : Function) (n : ℕ) (anew : Result ℕ Refusal × Store) → Left m s anew.1
      → Left m s (itself_or k f n s anew).1
  itself_left k Root zero anew l = same
  itself_left k Root (suc n) anew l = l
  itself_left k (Literal t v) n anew l = l
  itself_left k (GetItem name) n anew l = l
  itself_left k (Cast t) n anew l = l
  itself_left k (Binary o) n anew l = l
  itself_left k (Between o) n anew l = l
  itself_left k (Host c) n anew l = l

  rebuilt_left : (k : ℕ) (o : Option Node) → node_at s k ≡ o → (cs : List ℕ) (n : ℕ) → min n 8 ≤ length cs
      → Left m s (rebuilt m k o cs n s).1
  rebuilt_left k None e cs n l = same
  rebuilt_left k (Some x) e cs n l =
      itself_left k x.function n _
      (entered_left (old_plan k x cs n s) [] refl (old_honest m s k x cs n (sound.each k x e)) l _ (λ y h. h))

  pub step_left : (c : Step) → min (count c) 8 ≤ length (numbers c) → Left m s (perform m c s).1
  step_left (makes w cs n) l = make_left w cs n l
  step_left (rebuilds k cs n) l = rebuilt_left k (node_at s k) refl cs n l

  left_sound : {later : Store} → Left m s later → Sound m later
  left_sound same = sound
  left_sound (more p x h l b) = grown_sound m s sound p h l x b

  left_stays : {later : Store} → Left m s later → (k : ℕ) (x : Node) → node_at s k ≡ Some x
      → (node_at later k ≡ Some x) × (tree later k ≡ tree s k)
  left_stays same k x e = (e, refl)
  left_stays (more p y h l b) k x e = (
    record_stays m s sound y p.adds k x e,
    tree_stays m s sound y p.adds k (node_below s.nodes k x e),
  )

pub steps_keep_sound : StepsKeepSound
steps_keep_sound m s sound [] h = sound
steps_keep_sound m s sound (c ∷ cs) h =
    steps_keep_sound m (perform m c s).1 (left_sound m s sound (step_left m s sound c h.0)) cs h.1

pub nodes_stay : NodesStay
nodes_stay m s sound [] h k x e = (e, refl)
nodes_stay m s sound (c ∷ cs) h k x e =
    let l = step_left m s sound c h.0 in
    let (a, b) = left_stays m s sound l k x e in
    let (a2, b2) = nodes_stay m (perform m c s).1 (left_sound m s sound l) cs h.1 k x a in
    (a2, b2 ∙ b)
