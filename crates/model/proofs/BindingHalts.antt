-- Where a binding that is refused halts.
use Rattle.std.proofs.Common.{◌≡◌, ℕ, suc, ◌+◌, ◌<◌, Bool, true, false, cond, eqb, List, [], ◌∷◌, map, length, Err}
use Rattle.std.proofs.Common.{sym, refl, ap, ◌∙◌, subst, arith}
use lib.ListN.{length-map}
use Rattle.std.proofs.lemmas.Bool.{eqb-true, eqb-false}
use Rattle.vocabulary.specs.declared.refusals.Refusal.{Refusal}
use Rattle.vocabulary.specs.Nodes.{padded}
use Rattle.meaning.specs.Hosts.{Meaning}
use Rattle.meaning.specs.Trees.{Expr, size, sizes}
use Rattle.model.specs.Stores.{Store}
use Rattle.model.specs.Shapes.{head_of, shape, trees_by, shape_tree, kids}
use Rattle.model.specs.Wanted.{new_bytes}
use Rattle.model.specs.Making.{head_counts}
use Rattle.model.specs.Soundness.{Sound}
use Rattle.model.specs.LawsOfRefusing.{Refused}
use Rattle.vocabulary.specs.Nodes.{UnboundNode}
use Rattle.model.specs.Unbound.{rows, seen}
use Rattle.model.specs.UnboundMaking.{any_host}
use Rattle.model.specs.BindingTrees.{onward, asked, bind_over, bind_all, bind_among}
use Rattle.model.specs.LawsOfRefusedBinding.{itself, under}
use Rattle.model.proofs.Numbers.{tree_newest, node_newest}
use Rattle.model.proofs.BindingSteps.{shape_size}
use Rattle.model.proofs.BindingGranted.{Fit, Fits, kids_long, BoundAll, all_granted, trees_in, granted}
use Rattle.model.proofs.BindingStopped.{stands_still, Stops, at_first, at_second, onward_err, StoppedChild}
use Rattle.model.proofs.BindingStopped.{all_stopped}
use Rattle.model.proofs.BindingRefused.{Halted, Halts, older_tree, lifted, one_below, over_refused}

module _ (m : Meaning) (q : ℕ) (text : List ℕ) where
  -- the tree of the newest node
  newest_tree : (x : UnboundNode) (xs : List UnboundNode) (n : ℕ) → n ≡ length xs
      → trees_in m q text (x ∷ xs) n ≡ shape_tree (trees_in m q text xs) (shape text (seen q x))
  newest_tree x xs n i = tree_newest text (seen q x) (map (seen q) xs) n (i ∙ sym (length-map xs (seen q)))

  -- it has one place more than its children
  newest_size : (x : UnboundNode) (xs : List UnboundNode) (n : ℕ) → n ≡ length xs → Fit text n x
      → size (trees_in m q text (x ∷ xs) n) ≡ suc (sizes (trees_by (trees_in m q text xs) (kids x)))
  newest_size x xs n i fit =
      let ks = kids x in
      let h = head_of text (rows q) x.function in
      ap size (newest_tree x xs n i)
      ∙ shape_size any_host (trees_in m q text xs) h ks
      (ap (head_counts any_host h) (kids_long text n x fit) ∙ fit.counted q)

  module _ (x : UnboundNode) (xs : List UnboundNode) (n : ℕ) (i : n ≡ length xs) (fit : Fit text n x) (s : Store)
      (r : Refusal) where
    -- a child's tree was refused
    in_child : StoppedChild m (trees_in m q text xs) (kids x) s (Halts m q text xs) r
        → Halted m q text (x ∷ xs) n s r
    in_child c =
        let below : c.child < n = one_below m q text n (kids x) c.child fit.older c.one_of in
        let inner = c.stops (omega (arith, below, i)) in
        let large = newest_size x xs n i fit in
        record {
          halt = lifted m q text x xs s c.store r c.kept inner.halt;
          stands =
              under x (node_newest x xs n i) c.one_of
              (stands_still x xs c.child inner.halt.at inner.stands);
          room = omega (arith, inner.room, c.room, large);
        }

    -- the node itself was refused
    in_node : (s1 : Store) (js : List ℕ) → BoundAll m (trees_in m q text xs) (kids x) s s1 js
        → (later : Store) → bind_over m q text n x js s1 ≡ (Err r, later) → Halted m q text (x ∷ xs) n s r
    in_node s1 js all later e =
        let large = newest_size x xs n i fit in
        record {
          halt = record {
            at = n;
            node_of = x;
            found = node_newest x xs n i;
            store = s1;
            kept = all.kept;
            bound = js;
            long = all.long ∙ kids_long text n x fit;
            there = all.there;
            cause =
                subst
                (λ (z : Expr).
                Refused m s1 n (head_of text (rows q) x.function) (new_bytes (asked q text x.function))
                (padded js x.child_count) x.child_count z r)
                (sym (newest_tree x xs n i))
                (over_refused m q text (trees_in m q text xs) n x fit s s1 js all r later e);
          };
          stands = itself;
          room = omega (arith, all.as_many, large);
        }

  -- an older node's tree was refused
  in_older : (x : UnboundNode) (xs : List UnboundNode) (n : ℕ) (s : Store) → Sound m s → (r : Refusal)
      → n < length xs → Halted m q text xs n s r → Halted m q text (x ∷ xs) n s r
  in_older x xs n s sound r l h =
      let same = older_tree m q text x xs n l in
      record {
        halt = lifted m q text x xs s s r (record { sound = sound; grow = λ from g. g }) h.halt;
        stands = stands_still x xs n h.halt.at h.stands;
        room = subst (λ (e : Expr). length h.halt.store.nodes < length s.nodes + size e) (sym same) h.room;
      }

  pub halts : (xs : List UnboundNode) → Fits text xs → Stops m (bind_among m q text xs) (Halts m q text xs)
  unfolding bind_among
  halts [] fits n s sound r later e l = absurd (omega arith)
  halts (x ∷ xs) fits n s sound r later e l = go (halts xs fits.1) (eqb n (length xs)) refl e
    where
      go : Stops m (bind_among m q text xs) (Halts m q text xs) → (b : Bool) → eqb n (length xs) ≡ b
          → cond b (onward (bind_all (bind_among m q text xs) (kids x) s) (bind_over m q text n x))
          (bind_among m q text xs n s) ≡ (Err r, later) → Halted m q text (x ∷ xs) n s r
      go stop true a h =
          let i : n ≡ length xs = eqb-true n (length xs) a in
          let fit : Fit text n x = subst (λ (z : ℕ). Fit text z x) (sym i) fits.0 in
          let f = bind_among m q text xs in
          let one = granted m q text xs fits.1 in
          elim (onward_err (bind_all f (kids x) s) (bind_over m q text n x) r later h) [
            | at_first c ↦
                in_child x xs n i fit s r
                (all_stopped m f (trees_in m q text xs) one (Halts m q text xs) stop (kids x) s sound r later c)
            | at_second js s1 c d ↦
                in_node x xs n i fit s r s1 js
                (all_granted m f (trees_in m q text xs) one (kids x) s sound js s1 c) later d
          ]
      go stop false a h =
          let other = eqb-false n (length xs) a in
          let below : n < length xs = omega (arith, other) in
          in_older x xs n s sound r below (stop n s sound r later h below)
