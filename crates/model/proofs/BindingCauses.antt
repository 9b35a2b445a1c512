-- Bindings are refused for their causes, at a node of the tree.
use Rattle.std.proofs.Common.{◌≡◌, ℕ, ◌+◌, ◌<◌, ◌≤◌, Bool, true, false, ltb, leb, ◌⊎◌, List, [], ◌∷◌, ◌++◌, length}
use Rattle.std.proofs.Common.{Ok, Err, Result, sym, refl, ap, ◌∙◌, subst, inl, inr, arith}
use Rattle.std.proofs.lemmas.Bool.{ltb-true, ltb-false, leb-true, leb-false}
use Rattle.vocabulary.specs.declared.refusals.Refusal.{Refusal}
use Rattle.vocabulary.specs.Nodes.{padded}
use Rattle.meaning.specs.Columns.{Schemas}
use Rattle.meaning.specs.Hosts.{Meaning}
use Rattle.meaning.specs.Trees.{size}
use Rattle.meaning.specs.Typing.{typed}
use Rattle.model.specs.Stores.{Store}
use Rattle.model.specs.Wanted.{new_bytes}
use Rattle.model.specs.Making.{named}
use Rattle.model.specs.Soundness.{Below, Sound}
use Rattle.model.specs.LawsOfMaking.{Grows}
use Rattle.model.specs.LawsOfRefusing.{Refused, FirstMissing}
use Rattle.model.specs.LawsOfRefusing.{too_deep, too_large}
use Rattle.vocabulary.specs.Nodes.{UnboundNode}
use Rattle.model.specs.Unbound.{UnboundStore, tree_for}
use Rattle.model.specs.UnboundSoundness.{SoundUnbound, SoundUnboundNode}
use Rattle.model.specs.BindingTrees.{asked, first, all_or_nothing, bind_among, bind}
use Rattle.model.specs.LawsOfRefusedBinding.{head_for, Cause, RefusedBinding, no_node, no_schema, work_short, at_node}
use Rattle.model.specs.LawsOfRefusedBinding.{RefusedBindingsChangeNothing, BindingRefusesForCauses}
use Rattle.model.proofs.Children.{err_ok}
use Rattle.model.proofs.Missing.{err_same}
use Rattle.model.proofs.BindingSteps.{padded_back}
use Rattle.model.proofs.BindingGranted.{grown_from}
use Rattle.model.proofs.BindingLaws.{sound_fits}
use Rattle.model.proofs.BindingHalts.{halts}

-- each number of a list is below
below_at : (n : ℕ) (front : List ℕ) (k : ℕ) (back : List ℕ) → Below n (front ++ (k ∷ back)) → k < n
below_at n [] k back w = w.0
below_at n (i ∷ front) k back w = below_at n front k back w.1

-- a cause at a node, in the store that those before it came to, is one from where binding began
module _ (m : Meaning) (u : UnboundStore) (n q : ℕ) (s later : Store) (grows : Grows s later)
    (room : length later.nodes < length s.nodes + size (tree_for q u n)) (at : ℕ) (x : UnboundNode)
    (fine : SoundUnboundNode q u at x) (js : List ℕ) (long : length js ≡ x.child_count)
    (there : Below (length later.nodes) js) where
  none_missing : (k : ℕ) → FirstMissing later (named (padded js x.child_count) x.child_count) k → ⊥
  none_missing k f =
      let same = padded_back js x.child_count long fine.few in
      let w = subst (Below (length later.nodes)) (sym same ∙ f.split) there in
      omega (arith, below_at (length later.nodes) f.front k f.back w, f.missing)

  pub cause_of : (r : Refusal)
      → Refused m later at (head_for q u x) (new_bytes (asked q u.text x.function))
      (padded js x.child_count) x.child_count (tree_for q u at) r
      → Cause m u n q s at x r
  cause_of r (Refused.no_node k f) = absurd (none_missing k f)
  cause_of r (Refused.no_code w h) = Cause.no_code h
  cause_of r (Refused.wrong_count w h c) = Cause.wrong_count c
  cause_of r (Refused.unbound k b) =
      Cause.unbindable (ap (λ (z : Schemas). typed m z (tree_for q u at)) (sym grows.schemas) ∙ b)
  cause_of r (too_deep k t b d) = absurd (omega (arith, d, fine.levels, fine.shallow))
  cause_of r (too_large k t b d z) = absurd (omega (arith, z, fine.places, fine.small))
  cause_of r (Refused.records_full f h) = Cause.records_full (omega (arith, h, room, grows.records))
  cause_of r (Refused.text_full f l h) = Cause.text_full later grows (omega (arith, h, grows.bytes))

-- a test that refused, or was passed
first_err : (b : Bool) (q : Refusal) (s : Store) (next : Result ℕ Refusal × Store) (r : Refusal)
    → (first b q s next).0 ≡ Err r → ((b ≡ false) × (q ≡ r)) ⊎ ((b ≡ true) × (next.0 ≡ Err r))
first_err true q s next r e = inr (refl, e)
first_err false q s next r e = inl (refl, err_same e)

-- a binding that is refused, with what it left
all_err : (s : Store) (a : Result ℕ Refusal × Store) (r : Refusal) → (all_or_nothing s a).0 ≡ Err r
    → a ≡ (Err r, a.1)
all_err s (Ok k, t) r e = err_ok r k (sym e)
all_err s (Err p, t) r e = ap (λ (z : Refusal). (Err z, t)) (err_same e)

module _ (m : Meaning) (u : UnboundStore) (fine : SoundUnbound u) (s : Store) (sound : Sound m s) (n q work : ℕ)
    (r : Refusal) where
  in_tree : n < length u.nodes → q ≤ 7 → 256 ≤ work
      → (all_or_nothing s (bind_among m q u.text u.nodes n s)).0 ≡ Err r → RefusedBinding m u n q work s r
  in_tree l below enough e =
      let a = all_err s (bind_among m q u.text u.nodes n s) r e in
      let h = halts m q u.text u.nodes (sound_fits u fine) n s sound r _ a l in
      let t = h.halt in
      let x = fine.each q t.at t.node_of t.found in
      at_node l below enough t.at t.node_of h.stands t.found
      (cause_of m u n q s t.store (grown_from m s t.store t.kept) h.room t.at t.node_of x t.bound
      t.long t.there r t.cause)

  pub why : (bind m u n q work s).0 ≡ Err r → RefusedBinding m u n q work s r
  why e =
      elim (first_err (ltb n (length u.nodes)) _ s _ r e) [
        | inl a ↦ subst (RefusedBinding m u n q work s) a.1 (no_node (ltb-false n (length u.nodes) a.0))
        | inr a ↦
            let l = ltb-true n (length u.nodes) a.0 in
            elim (first_err (leb q 7) _ s _ r a.1) [
              | inl b ↦ subst (RefusedBinding m u n q work s) b.1 (no_schema l (leb-false q 7 b.0))
              | inr b ↦
                  let below = leb-true q 7 b.0 in
                  elim (first_err (leb 256 work) _ s _ r b.1) [
                    | inl c ↦ subst (RefusedBinding m u n q work s) c.1
                        (work_short l below (leb-false 256 work c.0))
                    | inr c ↦ in_tree l below (leb-true 256 work c.0) c.1
                  ]
            ]
      ]

pub binding_refuses_for_causes : BindingRefusesForCauses
binding_refuses_for_causes m u fine s sound n q work r e = why m u fine s sound n q work r e

-- a refusal leaves the store
first_leaves : (b : Bool) (q : Refusal) (s : Store) (next : Result ℕ Refusal × Store) (r : Refusal)
    → (next.0 ≡ Err r → next.1 ≡ s) → (first b q s next).0 ≡ Err r → (first b q s next).1 ≡ s
first_leaves true q s next r h e = h e
first_leaves false q s next r h e = refl

all_leave : (s : Store) (a : Result ℕ Refusal × Store) (r : Refusal) → (all_or_nothing s a).0 ≡ Err r
    → (all_or_nothing s a).1 ≡ s
all_leave s (Ok k, t) r e = err_ok r k (sym e)
all_leave s (Err p, t) r e = refl

pub refused_bindings_change_nothing : RefusedBindingsChangeNothing
refused_bindings_change_nothing m u n q work s r e =
    first_leaves (ltb n (length u.nodes)) _ s _ r
    (first_leaves (leb q 7) _ s _ r
    (first_leaves (leb 256 work) _ s _ r
    (all_leave s (bind_among m q u.text u.nodes n s) r)))
    e
