-- A store that grows by a granted plan stays sound, and its older nodes stay.
use Rattle.std.proofs.Common.{◌≡◌, ℕ, suc, ◌<◌, ◌≤◌, min, Bool, true, false, eqb, leb, List, [], ◌∷◌, ◌++◌, length}
use Rattle.std.proofs.Common.{take, drop, replicate, Some, sym, refl, ap, ◌∙◌, subst, arith, length-append}
use Rattle.std.proofs.Common.{length-drop, length-take}
use Rattle.std.proofs.lemmas.List.{take_at, length-take-le}
use Rattle.std.proofs.lemmas.Bool.{eqb-true, eqb-false, leb-true, and_parts}
use Rattle.std.proofs.lemmas.Option.{same_Some}
use Rattle.vocabulary.specs.Nodes.{BoundNode as Node}
use Rattle.vocabulary.specs.Nodes.{padded, text_of}
use Rattle.meaning.specs.Hosts.{Meaning}
use Rattle.meaning.specs.Trees.{Fn, root, literal, get_item, cast, compare, compute, between, call}
use Rattle.meaning.specs.Trees.{depth, size}
use Rattle.meaning.specs.Typing.{typed}
use Rattle.model.specs.Stores.{Store, node_among, node_at, grown}
use Rattle.model.specs.Shapes.{Head, join, over, head, kids, shape, shaped, shape_tree, tree_among, tree}
use Rattle.model.specs.Making.{Plan, named, fn_counts, head_counts, deepest, total_size}
use Rattle.model.specs.Soundness.{Below, EndsWithin, SoundNode, Sound}
use Rattle.model.proofs.Numbers.{node_older, node_newest, node_below, tree_older, tree_newest, shapes_same}
use Rattle.model.proofs.Texts.{head_kept, ends_more, AllWithin, tree_kept}
use Rattle.model.proofs.Children.{found_below, type_is, depth_is, size_is}
use Rattle.model.proofs.Plans.{Built, Honest}

-- a count that is right is at most eight
pub fn_few : (m : Meaning) (f : Fn) (n : ℕ) → fn_counts m f n ≡ true → n ≤ 8
fn_few m (root r) n e = omega (arith, eqb-true n 0 e)
fn_few m (literal t v) n e = omega (arith, eqb-true n 0 e)
fn_few m (get_item k) n e = omega (arith, eqb-true n 1 e)
fn_few m (cast t) n e = omega (arith, eqb-true n 1 e)
fn_few m (compare c) n e = omega (arith, eqb-true n 2 e)
fn_few m (compute o) n e = omega (arith, eqb-true n 2 e)
fn_few m (between o) n e = omega (arith, eqb-true n 3 e)
fn_few m (call c) n e = leb-true n 8 (and_parts (leb n 8) (m.takes c n) e).0

pub head_few : (m : Meaning) (h : Head) (n : ℕ) → head_counts m h n ≡ true → n ≤ 8
head_few m (join o) n e = omega (arith, eqb-true n 2 e)
head_few m (over f) n e = fn_few m f n e

-- numbers, of which the first so many are named
module _ (cs : List ℕ) (n : ℕ) (enough : min n 8 ≤ length cs) where
  pub named_length : n ≤ 8 → length (named cs n) ≡ n
  named_length h = simp length-take (omega arith)

  pub padded_named : take (min n 8) (padded cs (min n 8)) ≡ named cs n
  padded_named =
      take_at (take (min n 8) cs) (drop (min n 8) (replicate 8 0)) (min n 8) (length-take-le (min n 8) cs enough)

  pub padded_eight : length (padded cs (min n 8)) ≡ 8
  padded_eight = simp (length-append, length-take, length-drop) (omega arith)

  pub padded_again : padded cs (min n 8) ≡ padded (padded cs (min n 8)) (min n 8)
  padded_again = ap (λ (z : List ℕ). z ++ drop (min n 8) (replicate 8 0)) (sym padded_named)

pub within_all : (all : List ℕ) (xs : List Node)
    → ((n : ℕ) (y : Node) → node_among xs n ≡ Some y → EndsWithin all (text_of y.function)) → AllWithin all xs
within_all all [] h = tt
within_all all (x ∷ xs) h = (
  h (length xs) x (node_newest x xs (length xs) refl),
  within_all all xs (λ n y e. h n y (node_older x xs n (node_below xs n y e) ∙ e)),
)

module _ (m : Meaning) (s : Store) (sound : Sound m s) (x : Node) (bs : List ℕ) where
  all_within : AllWithin s.text s.nodes
  all_within = within_all s.text s.nodes (λ n y e. (sound.each n y e).ends)

  -- older records, and their trees, stay
  pub record_stays : (n : ℕ) (y : Node) → node_at s n ≡ Some y → node_at (grown x bs s) n ≡ Some y
  record_stays n y e = node_older x s.nodes n (node_below s.nodes n y e) ∙ e

  pub tree_stays : (n : ℕ) → n < length s.nodes → tree (grown x bs s) n ≡ tree s n
  tree_stays n l =
      tree_older (s.text ++ bs) x s.nodes n l ∙ tree_kept s.text bs s.nodes all_within n

  -- the new node's tree is that of its shape, over the older trees
  pub newest_tree : tree (grown x bs s) (length s.nodes) ≡ shape_tree (tree s) (shape (s.text ++ bs) x)
  newest_tree =
      tree_newest (s.text ++ bs) x s.nodes (length s.nodes) refl
      ∙ shapes_same (tree_among (s.text ++ bs) s.nodes) (tree s)
      (tree_kept s.text bs s.nodes all_within) (shape (s.text ++ bs) x)

  pub older_sound : (n : ℕ) (y : Node) → node_at s n ≡ Some y → SoundNode m (grown x bs s) n y
  older_sound n y e =
      let old = sound.each n y e in
      let same = tree_stays n (node_below s.nodes n y e) in
      record {
        binds = ap (typed m s.schemas) same ∙ old.binds;
        older = old.older;
        counted =
            ap (λ (h : Head). head_counts m h y.child_count)
            (head_kept s.text bs y.dtype y.function old.ends)
            ∙ old.counted;
        levels = old.levels ∙ ap depth (sym same);
        places = old.places ∙ ap size (sym same);
        shallow = old.shallow;
        small = old.small;
        ends = ends_more s.text bs (text_of y.function) old.ends;
        eight = old.eight;
        few = old.few;
        zeros = old.zeros;
      }

module _ (m : Meaning) (s : Store) (sound : Sound m s) (p : Plan) (honest : Honest m p s)
    (enough : min p.count 8 ≤ length p.children) (x : Node) (b : Built m p s x) where
  new_head : head (s.text ++ p.adds) x ≡ p.head
  new_head =
      ap (head (s.text ++ p.adds)) b.is ∙ honest.computes b.type _ b.binds

  new_kids : kids x ≡ named p.children p.count
  new_kids = ap kids b.is ∙ padded_named p.children p.count enough

  new_count : head_counts m p.head (length (named p.children p.count)) ≡ true
  new_count =
      let few : p.count ≤ 8 = head_few m p.head p.count b.counted in
      ap (head_counts m p.head) (named_length p.children p.count enough few) ∙ b.counted

  -- the new node's tree is what the plan computes, over the trees of the children named
  pub planned_tree :
      tree (grown x p.adds s) (length s.nodes)
      ≡ shape_tree (tree s) (shaped p.head (named p.children p.count))
  planned_tree =
      newest_tree m s sound x p.adds
      ∙ ap (λ (h : Head). shape_tree (tree s) (shaped h (kids x))) new_head
      ∙ ap (λ (ks : List ℕ). shape_tree (tree s) (shaped p.head ks)) new_kids

  newest_sound : SoundNode m (grown x p.adds s) (length s.nodes) x
  newest_sound =
      let ks = named p.children p.count in
      let few : p.count ≤ 8 = head_few m p.head p.count b.counted in
      let deep : x.depth ≡ suc (deepest b.records) = ap (λ (z : Node). z.depth) b.is in
      let large : x.size ≡ suc (total_size b.records) = ap (λ (z : Node). z.size) b.is in
      let count : x.child_count ≡ p.count = ap (λ (z : Node). z.child_count) b.is ∙ omega arith in
      record {
        binds =
            ap (typed m s.schemas) planned_tree
            ∙ type_is m s sound p.head ks b.records new_count b.there
            ∙ b.binds
            ∙ ap (λ (z : Node). Some z.dtype) (sym b.is);
        older = subst (Below (length s.nodes)) (sym new_kids) (found_below s ks b.records b.there);
        counted =
            ap (λ (h : Head). head_counts m h x.child_count) new_head
            ∙ ap (head_counts m p.head) count
            ∙ b.counted;
        levels = deep ∙ depth_is m s sound p.head ks b.records new_count b.there ∙ ap depth (sym planned_tree);
        places = large ∙ size_is m s sound p.head ks b.records new_count b.there ∙ ap size (sym planned_tree);
        shallow = omega (arith, deep, b.shallow);
        small = omega (arith, large, b.small);
        ends =
            subst (λ (z : Node). EndsWithin (s.text ++ p.adds) (text_of z.function)) (sym b.is)
            honest.ends;
        eight = ap (λ (z : Node). length z.children) b.is ∙ padded_eight p.children p.count enough;
        few = omega (arith, count, few);
        zeros =
            subst (λ (z : Node). z.children ≡ padded z.children z.child_count) (sym b.is)
            (padded_again p.children p.count enough);
      }

  -- the store stays sound
  pub grown_sound : Sound m (grown x p.adds s)
  grown_sound = record {
    each = λ n y e. go n y e (eqb n (length s.nodes)) refl;
    records_within = omega (arith, b.room);
    text_within = simp length-append b.text_room;
  }
    where
      go : (n : ℕ) (y : Node) → node_at (grown x p.adds s) n ≡ Some y → (c : Bool) → eqb n (length s.nodes) ≡ c
          → SoundNode m (grown x p.adds s) n y
      go n y e true h =
          let i = eqb-true n (length s.nodes) h in
          let j : x ≡ y = same_Some _ _ (sym (node_newest x s.nodes n i) ∙ e) in
          subst (SoundNode m (grown x p.adds s) n) j
          (subst (λ (k : ℕ). SoundNode m (grown x p.adds s) k x) (sym i) newest_sound)
      go n y e false h =
          let w = eqb-false n (length s.nodes) h in
          let l = node_below (x ∷ s.nodes) n y e in
          let l2 : n < length s.nodes = omega (arith, w, l) in
          older_sound m s sound x p.adds n y (sym (node_older x s.nodes n l2) ∙ e)
