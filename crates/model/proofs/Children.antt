-- The records of children that are there, and what they say of the children's trees.
use Rattle.std.proofs.Common.{◌≡◌, ℕ, suc, ◌+◌, max, true, List, [], ◌∷◌, length, Some, None, Ok, Err, Option, Result}
use Rattle.std.proofs.Common.{sym, refl, ap, ◌∙◌, subst, arith}
use Rattle.std.proofs.lemmas.Bool.{eqb-true}
use Rattle.vocabulary.specs.Nodes.{BoundNode as Node}
use Rattle.meaning.specs.Hosts.{Meaning}
use Rattle.meaning.specs.Trees.{logic, depth, depths, size, sizes}
use Rattle.meaning.specs.Lists.{of_two}
use Rattle.meaning.specs.Typing.{typed, typed_all, logic_type}
use Rattle.vocabulary.specs.declared.operators.Connective.{Connective}
use Rattle.model.specs.Stores.{Store, node_at}
use Rattle.model.specs.Shapes.{Head, join, over, shaped, shape_tree, tree, trees}
use Rattle.model.specs.Making.{with_record, looked_up, head_counts, head_type}
use Rattle.model.specs.Making.{types_of, deepest, total_size}
use Rattle.model.specs.Soundness.{Below, Sound}
use Rattle.model.proofs.Numbers.{node_below, node_there}

pub err_ok {ℓ} : {A E : Type 0} {B : Type ℓ} (e : E) (a : A) → ◌≡◌ {A = Result A E} (Err e) (Ok a) → B
err_ok e a p = absurd (grind arith)

pub ok_same : {A E : Type 0} {a b : A} → ◌≡◌ {A = Result A E} (Ok a) (Ok b) → a ≡ b
ok_same p = cc

-- a first record and the others, where all are there
pub record Led (s : Store) (k : ℕ) (ks : List ℕ) (xs : List Node) : Type 0 where
  pub first : Node
  pub rest : List Node
  pub there : node_at s k ≡ Some first
  pub others : looked_up s ks ≡ Ok rest
  pub whole : xs ≡ first ∷ rest

pub led : (s : Store) (k : ℕ) (ks : List ℕ) (xs : List Node) → looked_up s (k ∷ ks) ≡ Ok xs → Led s k ks xs
led s k ks xs e = go (node_at s k) (looked_up s ks) refl refl e
  where
    go : (o : Option Node) (r : Result (List Node) ℕ) → node_at s k ≡ o → looked_up s ks ≡ r
        → with_record k o r ≡ Ok xs → Led s k ks xs
    go None r a b h = err_ok k xs h
    go (Some x) (Ok ys) a b h = record { first = x; rest = ys; there = a; others = b; whole = sym (ok_same h) }
    go (Some x) (Err j) a b h = err_ok j xs h

-- children whose records are found are below the count of the nodes
pub found_below : (s : Store) (ks : List ℕ) (xs : List Node) → looked_up s ks ≡ Ok xs → Below (length s.nodes) ks
found_below s [] xs e = tt
found_below s (k ∷ ks) xs e =
    let l = led s k ks xs e in
    (node_below s.nodes k l.first l.there, found_below s ks l.rest l.others)

-- and children below the count of the nodes are found
pub below_found : (s : Store) (ks : List ℕ) → Below (length s.nodes) ks
    → (xs : List Node) × (looked_up s ks ≡ Ok xs)
below_found s [] w = ([], refl)
below_found s (k ∷ ks) w =
    let (x, a) = node_there s.nodes k w.0 in
    let (xs, b) = below_found s ks w.1 in
    (x ∷ xs, simp (a, b))

-- two records that are there
pub record Two (s : Store) (i j : ℕ) (xs : List Node) : Type 0 where
  pub first : Node
  pub second : Node
  pub first_there : node_at s i ≡ Some first
  pub second_there : node_at s j ≡ Some second
  pub whole : xs ≡ first ∷ second ∷ []

pub two : (s : Store) (i j : ℕ) (xs : List Node) → looked_up s (i ∷ j ∷ []) ≡ Ok xs → Two s i j xs
two s i j xs e =
    let l = led s i (j ∷ []) xs e in
    let r = led s j [] l.rest l.others in
    let n : [] ≡ r.rest = ok_same r.others in
    record {
      first = l.first;
      second = r.first;
      first_there = l.there;
      second_there = r.there;
      whole = l.whole ∙ ap (λ (z : List Node). l.first ∷ z) (r.whole ∙ ap (λ (z : List Node). r.first ∷ z) (sym n));
    }

-- a list of two
pub pair : (ks : List ℕ) → length ks ≡ 2 → (i j : ℕ) × (ks ≡ i ∷ j ∷ [])
pair [] h = absurd (omega arith)
pair (i ∷ []) h = absurd (omega arith)
pair (i ∷ j ∷ []) h = (i, j, refl)
pair (i ∷ j ∷ k ∷ ks) h = absurd (omega arith)

-- what a list of records says of the trees
module _ (m : Meaning) (s : Store) (sound : Sound m s) where
  pub types_are : (ks : List ℕ) (xs : List Node) → looked_up s ks ≡ Ok xs
      → typed_all m s.schemas (trees s ks) ≡ Some (types_of xs)
  types_are [] xs e = ap (λ (z : List Node). Some (types_of z)) (ok_same e)
  types_are (k ∷ ks) xs e =
      let l = led s k ks xs e in
      let a = (sound.each k l.first l.there).binds in
      let b = types_are ks l.rest l.others in
      simp (a, b) (ap (λ (z : List Node). Some (types_of z)) (sym l.whole))

  pub depths_are : (ks : List ℕ) (xs : List Node) → looked_up s ks ≡ Ok xs → deepest xs ≡ depths (trees s ks)
  depths_are [] xs e = ap deepest (sym (ok_same e))
  depths_are (k ∷ ks) xs e =
      let l = led s k ks xs e in
      let a = (sound.each k l.first l.there).levels in
      let b = depths_are ks l.rest l.others in
      ap deepest l.whole ∙ ap (λ (d : ℕ). max d (deepest l.rest)) a ∙ ap (λ (d : ℕ). max (depth (tree s k)) d) b

  pub sizes_are : (ks : List ℕ) (xs : List Node) → looked_up s ks ≡ Ok xs → total_size xs ≡ sizes (trees s ks)
  sizes_are [] xs e = ap total_size (sym (ok_same e))
  sizes_are (k ∷ ks) xs e =
      let l = led s k ks xs e in
      let a = (sound.each k l.first l.there).places in
      let b = sizes_are ks l.rest l.others in
      ap total_size l.whole ∙ ap (λ (d : ℕ). d + total_size l.rest) a ∙ ap (λ (d : ℕ). size (tree s k) + d) b

  -- the type, the depth and the size of And or Or of two that are there
  join_type : (o : Connective) (i j : ℕ) (xs : List Node) → looked_up s (i ∷ j ∷ []) ≡ Ok xs
      → typed m s.schemas (logic o (tree s i) (tree s j)) ≡ of_two None logic_type (types_of xs)
  join_type o i j xs e =
      let w = two s i j xs e in
      let a = (sound.each i w.first w.first_there).binds in
      let b = (sound.each j w.second w.second_there).binds in
      rw (a, b) (sym (ap (λ (z : List Node). of_two None logic_type (types_of z)) w.whole))

  join_depth : (o : Connective) (i j : ℕ) (xs : List Node) → looked_up s (i ∷ j ∷ []) ≡ Ok xs
      → suc (deepest xs) ≡ depth (logic o (tree s i) (tree s j))
  join_depth o i j xs e =
      let w = two s i j xs e in
      let a = (sound.each i w.first w.first_there).levels in
      let b = (sound.each j w.second w.second_there).levels in
      rw (w.whole, ← a, ← b) (omega arith)

  join_size : (o : Connective) (i j : ℕ) (xs : List Node) → looked_up s (i ∷ j ∷ []) ≡ Ok xs
      → suc (total_size xs) ≡ size (logic o (tree s i) (tree s j))
  join_size o i j xs e =
      let w = two s i j xs e in
      let a = (sound.each i w.first w.first_there).places in
      let b = (sound.each j w.second w.second_there).places in
      rw (w.whole, ← a, ← b) (omega arith)

  -- the type, the depth and the size of a node over children that are there
  pub type_is : (h : Head) (ks : List ℕ) (xs : List Node) → head_counts m h (length ks) ≡ true
      → looked_up s ks ≡ Ok xs
      → typed m s.schemas (shape_tree (tree s) (shaped h ks)) ≡ head_type m s.schemas h (types_of xs)
  type_is (join o) ks xs c e =
      let (i, j, w) = pair ks (eqb-true (length ks) 2 c) in
      let P : List ℕ → Type 0 = λ z. typed m s.schemas (shape_tree (tree s) (shaped (join o) z))
      ≡ of_two None logic_type (types_of xs) in
      subst P (sym w) (join_type o i j xs (ap (looked_up s) (sym w) ∙ e))
  type_is (over f) ks xs c e = simp (types_are ks xs e)

  pub depth_is : (h : Head) (ks : List ℕ) (xs : List Node) → head_counts m h (length ks) ≡ true
      → looked_up s ks ≡ Ok xs → suc (deepest xs) ≡ depth (shape_tree (tree s) (shaped h ks))
  depth_is (join o) ks xs c e =
      let (i, j, w) = pair ks (eqb-true (length ks) 2 c) in
      join_depth o i j xs (ap (looked_up s) (sym w) ∙ e)
      ∙ ap (λ (z : List ℕ). depth (shape_tree (tree s) (shaped (join o) z))) (sym w)
  depth_is (over f) ks xs c e = ap suc (depths_are ks xs e)

  pub size_is : (h : Head) (ks : List ℕ) (xs : List Node) → head_counts m h (length ks) ≡ true
      → looked_up s ks ≡ Ok xs → suc (total_size xs) ≡ size (shape_tree (tree s) (shaped h ks))
  size_is (join o) ks xs c e =
      let (i, j, w) = pair ks (eqb-true (length ks) 2 c) in
      join_size o i j xs (ap (looked_up s) (sym w) ∙ e)
      ∙ ap (λ (z : List ℕ). size (shape_tree (tree s) (shaped (join o) z))) (sym w)
  size_is (over f) ks xs c e = ap suc (sizes_are ks xs e)
