-- What a plan of an unbound node that is granted has passed, and what it records.
use Rattle.std.proofs.Common.{◌≡◌, ℕ, suc, ◌+◌, ◌<◌, ◌≤◌, max, true, ltb, leb, List, [], ◌∷◌, ◌++◌, length, Some, Ok}
use Rattle.std.proofs.Common.{Err, Result, sym, refl, ap, ◌∙◌, subst, append-nil, arith, length-append}
use lib.ListN.{length-map}
use Rattle.std.proofs.lemmas.Bool.{leb-true, ltb-true, eqb-true}
use Rattle.vocabulary.specs.declared.nodes.Function.{Function}
use Rattle.vocabulary.specs.declared.nodes.Function.TheVariants.{Root, Literal, GetItem, Cast, Binary, Between, Host}
use Rattle.vocabulary.specs.Nodes.{BoundNode as Node}
use Rattle.vocabulary.specs.Nodes.{text_of, text_of_value}
use Rattle.meaning.specs.HostCode.{read}
use Rattle.meaning.specs.Trees.{Fn, Expr, depth, depths, size, sizes}
use Rattle.meaning.specs.Values.{Value, null, bool, signed, unsigned, text, ext, whole}
use Rattle.meaning.specs.Comparing.{value_bytes}
use Rattle.meaning.proofs.CaseSplits.{mapped_some}
use Rattle.model.specs.Stores.{node_at}
use Rattle.model.specs.Shapes.{Head, join, over, head_of, shaped, trees_by, shape_tree}
use Rattle.model.specs.Wanted.{New, root, literal, get_item, cast, binary, between, host}
use Rattle.model.specs.Wanted.{placed_behind, new_function, new_bytes, new_head}
use Rattle.model.specs.Making.{Plan, named, looked_up, head_counts, deepest, total_size, new_record, new_plan}
use Rattle.model.specs.Rebuilding.{old_plan}
use Rattle.model.specs.Soundness.{EndsWithin}
use Rattle.vocabulary.specs.Nodes.{UnboundNode}
use Rattle.model.specs.Unbound.{UnboundStore, unbound_at, rows, seen, against, tree_for}
use Rattle.model.specs.UnboundMaking.{any_host, over_unbound, build_unbound}
use Rattle.model.specs.UnboundSoundness.{SoundUnbound}
use Rattle.model.specs.LawsOfUnbound.{held, for_schema}
use Rattle.model.proofs.Children.{err_ok, ok_same, led, pair}
use Rattle.model.proofs.Plans.{checked}
use Rattle.model.proofs.Texts.{part_behind}
use Rattle.model.proofs.UnboundNumbers.{seen_among}

-- what a granted plan has passed
pub record BuiltUnbound (p : Plan) (u : UnboundStore) (x : Node) : Type 0 where
  pub records : List Node
  pub there : looked_up (against 0 u) (named p.children p.count) ≡ Ok records
  pub counted : head_counts any_host p.head p.count ≡ true
  pub shallow : suc (deepest records) ≤ 256
  pub small : suc (total_size records) ≤ 4096
  pub room : length u.nodes < u.records
  pub text_room : length u.text + length p.adds ≤ u.bytes
  pub is : x ≡ new_record p (rows 0) records

pub built_unbound : (p : Plan) (u : UnboundStore) (x : Node) → build_unbound p u ≡ Ok x → BuiltUnbound p u x
unfolding build_unbound
built_unbound p u x e = children (looked_up (against 0 u) (named p.children p.count)) refl e
  where
    children : (r : Result (List Node) ℕ) → looked_up (against 0 u) (named p.children p.count) ≡ r
        → over_unbound p (against 0 u) r ≡ Ok x → BuiltUnbound p u x
    children (Err k) a h = err_ok _ x h
    children (Ok xs) a h =
        let (c, h1) = checked (head_counts any_host p.head p.count) _ _ x h in
        let (deep, h2) = checked (leb (suc (deepest xs)) 256) _ _ x h1 in
        let (large, h3) = checked (leb (suc (total_size xs)) 4096) _ _ x h2 in
        let (room, h4) = checked (ltb (length (against 0 u).nodes) u.records) _ _ x h3 in
        let (bytes, h5) = checked (leb (length u.text + length p.adds) u.bytes) _ _ x h4 in
        let few = ltb-true (length (against 0 u).nodes) u.records room in
        record {
          records = xs;
          there = a;
          counted = c;
          shallow = leb-true (suc (deepest xs)) 256 deep;
          small = leb-true (suc (total_size xs)) 4096 large;
          room = subst (λ (z : ℕ). z < u.records) (length-map u.nodes (seen 0)) few;
          text_room = leb-true (length u.text + length p.adds) u.bytes bytes;
          is = sym (ok_same h5);
        }

-- a plan whose function, as it is recorded, takes the count that was looked at, and lies in the text
pub record HonestUnbound (p : Plan) (u : UnboundStore) : Type 0 where
  pub takes :
      (q : ℕ) → head_counts any_host p.head p.count ≡ true
      → head_counts any_host (head_of (u.text ++ p.adds) (rows q) p.function) p.count ≡ true
  pub ends : EndsWithin (u.text ++ p.adds) (text_of p.function)

-- a literal's value is read as it is held
pub held_read : (all : List ℕ) (v : Value) → read (all ++ value_bytes v) [] (placed_behind all v) ≡ held v
held_read all null = refl
held_read all (bool b) = refl
held_read all (signed z) = refl
held_read all (unsigned n) = refl
held_read all (text bs) = ap text (part_behind all bs)
held_read all (ext e z) = refl
held_read all (whole s) = refl

held_ends : (all : List ℕ) (v : Value) → EndsWithin (all ++ value_bytes v) (text_of_value (placed_behind all v))
held_ends all null = tt
held_ends all (bool b) = tt
held_ends all (signed z) = tt
held_ends all (unsigned n) = tt
held_ends all (text bs) = simp length-append (omega arith)
held_ends all (ext e z) = tt
held_ends all (whole s) = tt

-- a new node's function, as it is recorded, computes what was asked for
pub new_computes : (q : ℕ) (all : List ℕ) (w : New)
    → head_of (all ++ new_bytes w) (rows q) (new_function all w) ≡ new_head (for_schema q w)
new_computes q all (root s) = refl
new_computes q all (literal t v) = ap (λ (z : Value). over (Fn.literal t z)) (held_read all v)
new_computes q all (get_item name) = ap (λ (z : List ℕ). over (Fn.get_item z)) (part_behind all name)
new_computes q all (cast t) = refl
new_computes q all (binary o) = refl
new_computes q all (between o) = refl
new_computes q all (host c) = refl

pub new_takes : (q : ℕ) (w : New) (n : ℕ)
    → head_counts any_host (new_head (for_schema q w)) n ≡ head_counts any_host (new_head w) n
new_takes q (root s) n = refl
new_takes q (literal t v) n = refl
new_takes q (get_item name) n = refl
new_takes q (cast t) n = refl
new_takes q (binary o) n = refl
new_takes q (between o) n = refl
new_takes q (host c) n = refl

new_ends : (all : List ℕ) (w : New) → EndsWithin (all ++ new_bytes w) (text_of (new_function all w))
new_ends all (root s) = tt
new_ends all (literal t v) = held_ends all v
new_ends all (get_item name) = simp length-append (omega arith)
new_ends all (cast t) = tt
new_ends all (binary o) = tt
new_ends all (between o) = tt
new_ends all (host c) = tt

pub new_honest_unbound : (u : UnboundStore) (w : New) (cs : List ℕ) (n : ℕ)
    → HonestUnbound (new_plan w cs n (against 0 u)) u
new_honest_unbound u w cs n = record {
  takes = λ q c.
      ap (λ (h : Head). head_counts any_host h n) (new_computes q u.text w) ∙ new_takes q w n ∙ c;
  ends = new_ends u.text w;
}

-- what a function takes depends neither on the text nor on the schema
pub same_takes : (q r : ℕ) (all more : List ℕ) (f : Function) (n : ℕ)
    → head_counts any_host (head_of all (rows q) f) n ≡ head_counts any_host (head_of more (rows r) f) n
same_takes q r all more Root n = refl
same_takes q r all more (Literal t v) n = refl
same_takes q r all more (GetItem name) n = refl
same_takes q r all more (Cast t) n = refl
same_takes q r all more (Binary o) n = refl
same_takes q r all more (Between o) n = refl
same_takes q r all more (Host c) n = refl

pub old_honest_unbound : (u : UnboundStore) (k : ℕ) (x : UnboundNode) (cs : List ℕ) (n : ℕ)
    → EndsWithin u.text (text_of x.function) → HonestUnbound (old_plan k (seen 0 x) cs n (against 0 u)) u
old_honest_unbound u k x cs n h = record {
  takes = λ q c. same_takes q 0 (u.text ++ []) u.text x.function n ∙ c;
  ends = subst (λ (z : List ℕ). EndsWithin z (text_of x.function)) (sym (append-nil u.text)) h;
}

-- depth and size of a counted shape
pub shape_depth : (g : ℕ → Expr) (h : Head) (ks : List ℕ) → head_counts any_host h (length ks) ≡ true
    → depth (shape_tree g (shaped h ks)) ≡ suc (depths (trees_by g ks))
shape_depth g (join o) ks c =
    let (i, j, y) = pair ks (eqb-true (length ks) 2 c) in
    let P : List ℕ → Type 0 = λ z. depth (shape_tree g (shaped (join o) z)) ≡ suc (depths (trees_by g z)) in
    subst P (sym y) (omega arith)
shape_depth g (over f) ks c = refl

-- the records of children that are there say what their trees are, whatever the schema
module _ (u : UnboundStore) (sound : SoundUnbound u) (q : ℕ) where
  child_of : (k : ℕ) (x : Node) → node_at (against 0 u) k ≡ Some x
      → (y : UnboundNode) × (unbound_at u k ≡ Some y) × (seen 0 y ≡ x)
  child_of k x e = mapped_some (seen 0) (unbound_at u k) x (sym (seen_among 0 u.nodes k) ∙ e)

  pub depths_for : (ks : List ℕ) (xs : List Node) → looked_up (against 0 u) ks ≡ Ok xs
      → deepest xs ≡ depths (trees_by (tree_for q u) ks)
  depths_for [] xs e = ap deepest (sym (ok_same e))
  depths_for (k ∷ ks) xs e =
      let l = led (against 0 u) k ks xs e in
      let (y, f, i) = child_of k l.first l.there in
      let a : l.first.depth ≡ depth (tree_for q u k) =
      ap (λ (z : Node). z.depth) (sym i) ∙ (sound.each q k y f).levels in
      let b = depths_for ks l.rest l.others in
      ap deepest l.whole
      ∙ ap (λ (d : ℕ). max d (deepest l.rest)) a
      ∙ ap (λ (d : ℕ). max (depth (tree_for q u k)) d) b

  pub sizes_for : (ks : List ℕ) (xs : List Node) → looked_up (against 0 u) ks ≡ Ok xs
      → total_size xs ≡ sizes (trees_by (tree_for q u) ks)
  sizes_for [] xs e = ap total_size (sym (ok_same e))
  sizes_for (k ∷ ks) xs e =
      let l = led (against 0 u) k ks xs e in
      let (y, f, i) = child_of k l.first l.there in
      let a : l.first.size ≡ size (tree_for q u k) =
      ap (λ (z : Node). z.size) (sym i) ∙ (sound.each q k y f).places in
      let b = sizes_for ks l.rest l.others in
      ap total_size l.whole
      ∙ ap (λ (d : ℕ). d + total_size l.rest) a
      ∙ ap (λ (d : ℕ). size (tree_for q u k) + d) b
