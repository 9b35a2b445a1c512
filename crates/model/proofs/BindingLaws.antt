-- The laws of granted bindings.
use Rattle.std.proofs.Common.{◌≡◌, ℕ, Bool, true, false, ltb, leb, List, [], ◌∷◌, length, Some, Ok, Err, Result, sym}
use Rattle.std.proofs.Common.{refl, ap, ◌∙◌, arith}
use Rattle.std.proofs.lemmas.Bool.{le-leb, cond-true}
use Rattle.vocabulary.specs.Nodes.{BoundNode as Node}
use Rattle.vocabulary.specs.declared.refusals.Refusal.{Refusal}
use Rattle.meaning.specs.Hosts.{Meaning}
use Rattle.meaning.specs.Columns.{Schemas}
use Rattle.meaning.specs.Typing.{typed}
use Rattle.model.specs.Stores.{Store, node_among}
use Rattle.model.specs.Wanted.{New, root, literal, get_item, cast, binary, between, host, new_bytes}
use Rattle.model.specs.Making.{build, entered, schema_first, new_plan}
use Rattle.model.specs.Soundness.{Sound}
use Rattle.model.specs.LawsOfMaking.{Grows}
use Rattle.model.specs.LawsOfRefusing.{SchemaThere}
use Rattle.vocabulary.specs.Nodes.{UnboundNode}
use Rattle.model.specs.Unbound.{UnboundStore, tree_for}
use Rattle.model.specs.UnboundSoundness.{SoundUnbound}
use Rattle.model.specs.BindingTrees.{first, all_or_nothing, bind_among, bind}
use Rattle.model.specs.LawsOfBinding.{BoundTree, BoundAsAsked, KeptStore, BindingKeepsTheStore}
use Rattle.model.specs.LawsOfBinding.{EachPlace, OneNodeForEachPlace, BindingMakesAsMaking}
use Rattle.model.proofs.Children.{err_ok}
use Rattle.model.proofs.Numbers.{node_below, node_there, node_newest, node_older}
use Rattle.model.proofs.BindingSteps.{tree_lasts, node_lasts}
use Rattle.model.proofs.BindingGranted.{Fit, Fits, Bound, grown_from, granted}

fits_all : (text : List ℕ) (xs : List UnboundNode)
    → ((n : ℕ) (x : UnboundNode) → node_among xs n ≡ Some x → Fit text n x) → Fits text xs
fits_all text [] h = tt
fits_all text (x ∷ xs) h = (
  h (length xs) x (node_newest x xs (length xs) refl),
  fits_all text xs (λ n y e. h n y (node_older x xs n (node_below xs n y e) ∙ e)),
)

-- the records of a sound unbound arena fit
pub sound_fits : (u : UnboundStore) → SoundUnbound u → Fits u.text u.nodes
sound_fits u sound =
    fits_all u.text u.nodes
    (λ n x e.
    let r = sound.each 0 n x e in
    record { older = r.older; counted = λ q. (sound.each q n x e).counted; eight = r.eight; few = r.few })

first_ok : (b : Bool) (r : Refusal) (s : Store) (next : Result ℕ Refusal × Store) (k : ℕ) (later : Store)
    → first b r s next ≡ (Ok k, later) → next ≡ (Ok k, later)
first_ok true r s next k later e = e
first_ok false r s next k later e = err_ok r k (ap (λ (z : Result ℕ Refusal × Store). z.0) e)

all_ok : (s : Store) (a : Result ℕ Refusal × Store) (k : ℕ) (later : Store)
    → all_or_nothing s a ≡ (Ok k, later) → a ≡ (Ok k, later)
all_ok s (Ok j, t) k later e = e
all_ok s (Err r, t) k later e = err_ok r k (ap (λ (z : Result ℕ Refusal × Store). z.0) e)

module _ (m : Meaning) (u : UnboundStore) (fine : SoundUnbound u) (s : Store) (sound : Sound m s)
    (n q work k : ℕ) (e : (bind m u n q work s).0 ≡ Ok k) where
  among : bind_among m q u.text u.nodes n s ≡ (Ok k, (bind m u n q work s).1)
  among =
      let later = (bind m u n q work s).1 in
      let whole : bind m u n q work s ≡ (Ok k, later) = ap (λ (z : Result ℕ Refusal). (z, later)) e in
      all_ok s _ k later
      (first_ok (leb 256 work) _ s _ k later
      (first_ok (leb q 7) _ s _ k later
      (first_ok (ltb n (length u.nodes)) _ s _ k later whole)))

  is_bound : Bound m (tree_for q u n) s (bind m u n q work s).1 k
  is_bound = granted m q u.text u.nodes (sound_fits u fine) n s sound k (bind m u n q work s).1 among

  grows : Grows s (bind m u n q work s).1
  grows = grown_from m s (bind m u n q work s).1 is_bound.kept

  its_tree : BoundTree m (tree_for q u n) s (bind m u n q work s).1 k
  its_tree =
      let later = (bind m u n q work s).1 in
      let (x, found) = node_there later.nodes k (omega (arith, is_bound.last)) in
      record {
        tree_is = is_bound.tree_is;
        record_of = x;
        found = found;
        binds =
            ap (λ (z : Schemas). typed m z (tree_for q u n)) (sym grows.schemas)
            ∙ ap (typed m later.schemas) (sym is_bound.tree_is)
            ∙ (is_bound.kept.sound.each k x found).binds;
      }

  store_kept : KeptStore m (tree_for q u n) s (bind m u n q work s).1 k
  store_kept =
      let later = (bind m u n q work s).1 in
      record {
        sound = is_bound.kept.sound;
        grows = grows;
        stay = λ j x i. (
          node_lasts m s later sound grows j x i,
          tree_lasts m s later sound grows j (node_below s.nodes j x i),
        );
      }

  each_place : EachPlace m (tree_for q u n) s (bind m u n q work s).1 k
  each_place = record { as_many = is_bound.as_many; last = is_bound.last }

pub bound_as_asked : BoundAsAsked
bound_as_asked m u fine s sound n q work k e = its_tree m u fine s sound n q work k e

pub binding_keeps_the_store : BindingKeepsTheStore
binding_keeps_the_store m u fine s sound n q work k e = store_kept m u fine s sound n q work k e

pub one_node_for_each_place : OneNodeForEachPlace
one_node_for_each_place m u fine s sound n q work k e = each_place m u fine s sound n q work k e

-- the schema of a Root that is one of 0 to 7 is not refused
passes : (w : New) (a : Result Node Refusal) → SchemaThere w → a ≡ schema_first w a
passes (root q) a h = sym (cond-true (leb q 7) a _ (le-leb q 7 h))
passes (literal t v) a h = refl
passes (get_item name) a h = refl
passes (cast t) a h = refl
passes (binary o) a h = refl
passes (between o) a h = refl
passes (host c) a h = refl

pub binding_makes_as_making : BindingMakesAsMaking
binding_makes_as_making m w cs n s h =
    ap (entered (new_bytes w) s) (passes w (build m (new_plan w cs n s) s) h)
