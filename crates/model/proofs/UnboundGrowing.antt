-- An unbound arena that grows by a granted plan stays sound, and its older nodes stay.
use Rattle.std.proofs.Common.{◌≡◌, ℕ, suc, ◌<◌, ◌≤◌, min, Bool, true, false, eqb, List, [], ◌∷◌, ◌++◌, map, length}
use Rattle.std.proofs.Common.{Some, sym, refl, ap, ◌∙◌, subst, arith, length-append}
use lib.ListN.{length-map}
use Rattle.std.proofs.lemmas.Bool.{eqb-true, eqb-false}
use Rattle.std.proofs.lemmas.Option.{same_Some}
use Rattle.vocabulary.specs.Nodes.{BoundNode as Node}
use Rattle.vocabulary.specs.Nodes.{padded, text_of}
use Rattle.meaning.specs.Trees.{depth, size}
use Rattle.model.specs.Shapes.{Head, head_of, shape, shaped, shape_tree, tree_among, kids}
use Rattle.model.specs.Making.{Plan, named, head_counts, deepest, total_size}
use Rattle.model.specs.Soundness.{Below, EndsWithin}
use Rattle.vocabulary.specs.Nodes.{UnboundNode}
use Rattle.model.specs.Unbound.{UnboundStore, unbound_at, unbound_grown}
use Rattle.vocabulary.specs.Nodes.{untyped}
use Rattle.model.specs.Unbound.{rows, seen, against, tree_for}
use Rattle.model.specs.UnboundMaking.{any_host}
use Rattle.model.specs.UnboundSoundness.{SoundUnbound, SoundUnboundNode}
use Rattle.model.proofs.Numbers.{tree_older, tree_newest, shapes_same, node_below, node_newest, node_older}
use Rattle.model.proofs.Texts.{ends_more, AllWithin, tree_kept}
use Rattle.model.proofs.Children.{found_below}
use Rattle.model.proofs.Growing.{head_few, named_length, padded_named, padded_eight, padded_again}
use Rattle.model.proofs.BindingSteps.{shape_size}
use Rattle.model.proofs.UnboundPlans.{BuiltUnbound, HonestUnbound, same_takes, shape_depth, depths_for, sizes_for}
use Rattle.model.specs.Stores.{node_among}

within_seen : (q : ℕ) (all : List ℕ) (xs : List UnboundNode)
    → ((n : ℕ) (y : UnboundNode) → node_among xs n ≡ Some y → EndsWithin all (text_of y.function))
    → AllWithin all (map (seen q) xs)
within_seen q all [] h = tt
within_seen q all (x ∷ xs) h = (
  h (length xs) x (node_newest x xs (length xs) refl),
  within_seen q all xs (λ n y e. h n y (node_older x xs n (node_below xs n y e) ∙ e)),
)

module _ (u : UnboundStore) (sound : SoundUnbound u) (x : UnboundNode) (bs : List ℕ) where
  kept_for : (q n : ℕ) → tree_among (u.text ++ bs) (map (seen q) u.nodes) n ≡ tree_for q u n
  kept_for q n =
      tree_kept u.text bs (map (seen q) u.nodes)
      (within_seen q u.text u.nodes (λ k y e. (sound.each q k y e).ends)) n

  -- older records, and their trees, stay
  pub unbound_stays : (n : ℕ) (y : UnboundNode) → unbound_at u n ≡ Some y
      → unbound_at (unbound_grown x bs u) n ≡ Some y
  unbound_stays n y e = node_older x u.nodes n (node_below u.nodes n y e) ∙ e

  pub tree_for_stays : (q n : ℕ) → n < length u.nodes → tree_for q (unbound_grown x bs u) n ≡ tree_for q u n
  tree_for_stays q n l =
      let e : length (map (seen q) u.nodes) ≡ length u.nodes = length-map u.nodes (seen q) in
      tree_older (u.text ++ bs) (seen q x) (map (seen q) u.nodes) n (omega arith) ∙ kept_for q n

  -- the new node's tree is that of its shape, over the older trees
  pub newest_for : (q : ℕ)
      → tree_for q (unbound_grown x bs u) (length u.nodes)
      ≡ shape_tree (tree_for q u) (shape (u.text ++ bs) (seen q x))
  newest_for q =
      tree_newest (u.text ++ bs) (seen q x) (map (seen q) u.nodes) (length u.nodes)
      (sym (length-map u.nodes (seen q)))
      ∙ shapes_same (tree_among (u.text ++ bs) (map (seen q) u.nodes)) (tree_for q u) (kept_for q)
      (shape (u.text ++ bs) (seen q x))

  older_stays_sound : (q n : ℕ) (y : UnboundNode) → unbound_at u n ≡ Some y
      → SoundUnboundNode q (unbound_grown x bs u) n y
  older_stays_sound q n y e =
      let old = sound.each q n y e in
      let same = tree_for_stays q n (node_below u.nodes n y e) in
      record {
        older = old.older;
        counted = same_takes q q (u.text ++ bs) u.text y.function y.child_count ∙ old.counted;
        levels = old.levels ∙ ap depth (sym same);
        places = old.places ∙ ap size (sym same);
        shallow = old.shallow;
        small = old.small;
        ends = ends_more u.text bs (text_of y.function) old.ends;
        eight = old.eight;
        few = old.few;
        zeros = old.zeros;
      }

module _ (u : UnboundStore) (sound : SoundUnbound u) (p : Plan) (honest : HonestUnbound p u)
    (enough : min p.count 8 ≤ length p.children) (x : Node) (b : BuiltUnbound p u x) where
  few_children : p.count ≤ 8
  few_children = head_few any_host p.head p.count b.counted

  kids_are : kids (untyped x) ≡ named p.children p.count
  kids_are = ap (λ (z : Node). kids (untyped z)) b.is ∙ padded_named p.children p.count enough

  -- what the new node computes against a schema
  abbrev pub planned_head : ℕ → Head
  planned_head q = head_of (u.text ++ p.adds) (rows q) p.function

  -- the new node's tree is what is recorded, over the trees of the children named
  pub planned_for : (q : ℕ)
      → tree_for q (unbound_grown (untyped x) p.adds u) (length u.nodes)
      ≡ shape_tree (tree_for q u) (shaped (planned_head q) (named p.children p.count))
  planned_for q =
      newest_for u sound (untyped x) p.adds q
      ∙ ap
      (λ (z : Node).
      shape_tree (tree_for q u)
      (shaped (head_of (u.text ++ p.adds) (rows q) z.function) (kids (untyped x))))
      b.is
      ∙ ap (λ (ks : List ℕ). shape_tree (tree_for q u) (shaped (planned_head q) ks)) kids_are

  newest_counted : (q : ℕ)
      → head_counts any_host (planned_head q) (length (named p.children p.count)) ≡ true
  newest_counted q =
      ap (head_counts any_host (planned_head q)) (named_length p.children p.count enough few_children)
      ∙ honest.takes q b.counted

  newest_is_sound : (q : ℕ)
      → SoundUnboundNode q (unbound_grown (untyped x) p.adds u) (length u.nodes) (untyped x)
  newest_is_sound q =
      let ks = named p.children p.count in
      let few = few_children in
      let deep : x.depth ≡ suc (deepest b.records) = ap (λ (z : Node). z.depth) b.is in
      let large : x.size ≡ suc (total_size b.records) = ap (λ (z : Node). z.size) b.is in
      let count : x.child_count ≡ p.count = ap (λ (z : Node). z.child_count) b.is ∙ omega arith in
      let below = found_below (against 0 u) ks b.records b.there in
      record {
        older =
            subst (Below (length u.nodes)) (sym kids_are)
            (subst (λ (z : ℕ). Below z ks) (length-map u.nodes (seen 0)) below);
        counted =
            ap
            (λ (z : Node).
            head_counts any_host (head_of (u.text ++ p.adds) (rows q) z.function) x.child_count)
            b.is
            ∙ ap (head_counts any_host (planned_head q)) count
            ∙ honest.takes q b.counted;
        levels =
            deep ∙ ap suc (depths_for u sound q ks b.records b.there)
            ∙ sym (shape_depth (tree_for q u) (planned_head q) ks (newest_counted q))
            ∙ ap depth (sym (planned_for q));
        places =
            large ∙ ap suc (sizes_for u sound q ks b.records b.there)
            ∙ sym (shape_size any_host (tree_for q u) (planned_head q) ks (newest_counted q))
            ∙ ap size (sym (planned_for q));
        shallow = omega (arith, deep, b.shallow);
        small = omega (arith, large, b.small);
        ends =
            subst (λ (z : Node). EndsWithin (u.text ++ p.adds) (text_of z.function)) (sym b.is)
            honest.ends;
        eight = ap (λ (z : Node). length z.children) b.is ∙ padded_eight p.children p.count enough;
        few = omega (arith, count, few);
        zeros =
            subst (λ (z : Node). z.children ≡ padded z.children z.child_count) (sym b.is)
            (padded_again p.children p.count enough);
      }

  -- the arena stays sound
  pub unbound_grown_sound : SoundUnbound (unbound_grown (untyped x) p.adds u)
  unbound_grown_sound = record {
    each = λ q n y e. go q n y e (eqb n (length u.nodes)) refl;
    records_within = omega (arith, b.room);
    text_within = simp length-append b.text_room;
  }
    where
      go : (q n : ℕ) (y : UnboundNode) → unbound_at (unbound_grown (untyped x) p.adds u) n ≡ Some y
          → (c : Bool) → eqb n (length u.nodes) ≡ c
          → SoundUnboundNode q (unbound_grown (untyped x) p.adds u) n y
      go q n y e true h =
          let i = eqb-true n (length u.nodes) h in
          let j : untyped x ≡ y = same_Some _ _ (sym (node_newest (untyped x) u.nodes n i) ∙ e) in
          subst (SoundUnboundNode q (unbound_grown (untyped x) p.adds u) n) j
          (subst (λ (k : ℕ). SoundUnboundNode q (unbound_grown (untyped x) p.adds u) k (untyped x)) (sym i)
          (newest_is_sound q))
      go q n y e false h =
          let w = eqb-false n (length u.nodes) h in
          let l = node_below (untyped x ∷ u.nodes) n y e in
          let l2 : n < length u.nodes = omega (arith, w, l) in
          older_stays_sound u sound (untyped x) p.adds q n y
          (sym (node_older (untyped x) u.nodes n l2) ∙ e)
