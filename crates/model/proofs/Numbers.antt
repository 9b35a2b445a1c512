-- Records and trees by their numbers: one more node changes none of the older ones.
use Rattle.std.proofs.Common.{◌≡◌, ℕ, suc, ◌<◌, ◌≤◌, Bool, true, false, cond, eqb, List, [], ◌∷◌, length, Some, None}
use Rattle.std.proofs.Common.{sym, refl, ap, ◌∙◌, arith}
use Rattle.std.proofs.lemmas.Bool.{eqb-true, eqb-false, eq-eqb, ne_eqb}
use Rattle.std.proofs.lemmas.Option.{same_Some}
use Rattle.vocabulary.specs.declared.nodes.Node.{Node as Record}
use Rattle.vocabulary.specs.Nodes.{BoundNode as Node}
use Rattle.meaning.specs.Trees.{Expr, node}
use Rattle.meaning.proofs.CaseSplits.{none_some}
use Rattle.model.specs.Stores.{node_among}
use Rattle.model.specs.Shapes.{Shape, both, on, shape, trees_by, shape_tree, tree_among}
use Rattle.model.specs.Soundness.{Below}

-- the numbers of a shape
abbrev pub shape_kids : Shape → List ℕ
shape_kids (both o i j) = i ∷ j ∷ []
shape_kids (on f ks) = ks

pub node_older : {T : Type 0} (x : Record T) (xs : List (Record T)) (n : ℕ) → n < length xs
    → node_among (x ∷ xs) n ≡ node_among xs n
unfolding node_among
node_older x xs n h =
    ap (λ (b : Bool). cond b (Some x) (node_among xs n)) (ne_eqb n (length xs) (λ e. omega arith))

pub node_newest : {T : Type 0} (x : Record T) (xs : List (Record T)) (n : ℕ) → n ≡ length xs
    → node_among (x ∷ xs) n ≡ Some x
unfolding node_among
node_newest x xs n h = ap (λ (b : Bool). cond b (Some x) (node_among xs n)) (eq-eqb n (length xs) h)

-- a number with a record is below the count of the nodes
pub node_below : {T : Type 0} (xs : List (Record T)) (n : ℕ) (x : Record T)
    → node_among xs n ≡ Some x → n < length xs
unfolding node_among
node_below [] n x e = none_some x e
node_below (y ∷ xs) n x e = go (node_below xs n x) (eqb n (length xs)) refl e
  where
    go : (node_among xs n ≡ Some x → n < length xs) → (b : Bool) → eqb n (length xs) ≡ b
        → cond b (Some y) (node_among xs n) ≡ Some x → n < suc (length xs)
    go f true i j = omega (arith, eqb-true n (length xs) i)
    go f false i j = omega (arith, f j)

-- each number below the count of the nodes has a record
pub node_there : (xs : List Node) (n : ℕ) → n < length xs → (x : Node) × (node_among xs n ≡ Some x)
node_there [] n h = absurd (omega arith)
node_there (y ∷ xs) n h = go (node_there xs n) (eqb n (length xs)) refl
  where
    go : (n < length xs → (x : Node) × (node_among xs n ≡ Some x)) → (b : Bool) → eqb n (length xs) ≡ b
        → (x : Node) × (node_among (y ∷ xs) n ≡ Some x)
    go f true e = (y, node_newest y xs n (eqb-true n (length xs) e))
    go f false e =
        let w = eqb-false n (length xs) e in
        let l : n < length xs = omega (arith, w) in
        let (x, k) = f l in (x, node_older y xs n l ∙ k)

-- a number past the nodes has none
pub node_past : (xs : List Node) (n : ℕ) → length xs ≤ n → node_among xs n ≡ None
unfolding node_among
node_past [] n h = refl
node_past (x ∷ xs) n h =
    ap (λ (b : Bool). cond b (Some x) (node_among xs n)) (ne_eqb n (length xs) (λ e. omega arith))
    ∙ node_past xs n (omega arith)

pub tree_older : (text : List ℕ) (x : Node) (xs : List Node) (n : ℕ) → n < length xs
    → tree_among text (x ∷ xs) n ≡ tree_among text xs n
unfolding tree_among
tree_older text x xs n h =
    ap (λ (b : Bool). cond b (shape_tree (tree_among text xs) (shape text x)) (tree_among text xs n))
    (ne_eqb n (length xs) (λ e. omega arith))

pub tree_newest : (text : List ℕ) (x : Node) (xs : List Node) (n : ℕ) → n ≡ length xs
    → tree_among text (x ∷ xs) n ≡ shape_tree (tree_among text xs) (shape text x)
unfolding tree_among
tree_newest text x xs n h =
    ap (λ (b : Bool). cond b (shape_tree (tree_among text xs) (shape text x)) (tree_among text xs n))
    (eq-eqb n (length xs) h)

-- trees that agree on the children agree on the node
module _ (f g : ℕ → Expr) (k : ℕ) (h : (n : ℕ) → n < k → f n ≡ g n) where
  pub trees_agree : (ks : List ℕ) → Below k ks → trees_by f ks ≡ trees_by g ks
  trees_agree [] w = refl
  trees_agree (i ∷ ks) w = simp (h i w.0, trees_agree ks w.1)

  pub shapes_agree : (sh : Shape) → Below k (shape_kids sh) → shape_tree f sh ≡ shape_tree g sh
  shapes_agree (both o i j) w = simp (h i w.0, h j w.1.0)
  shapes_agree (on c ks) w = ap (node c) (trees_agree ks w)

module _ (f g : ℕ → Expr) (h : (n : ℕ) → f n ≡ g n) where
  pub trees_same : (ks : List ℕ) → trees_by f ks ≡ trees_by g ks
  trees_same [] = refl
  trees_same (i ∷ ks) = simp (h i, trees_same ks)

  pub shapes_same : (sh : Shape) → shape_tree f sh ≡ shape_tree g sh
  shapes_same (both o i j) = simp (h i, h j)
  shapes_same (on c ks) = ap (node c) (trees_same ks)

-- a node's tree is its shape's, over the trees of its older children
pub shown : (text : List ℕ) (xs : List Node) (n : ℕ) (x : Node) → node_among xs n ≡ Some x
    → Below n (shape_kids (shape text x)) → tree_among text xs n ≡ shape_tree (tree_among text xs) (shape text x)
unfolding node_among
shown text [] n x e w = none_some x e
shown text (y ∷ xs) n x e w = go (shown text xs n x) (eqb n (length xs)) refl e
  where
    at_newest : n ≡ length xs → y ≡ x
        → tree_among text (y ∷ xs) n ≡ shape_tree (tree_among text (y ∷ xs)) (shape text x)
    at_newest i j =
        tree_newest text y xs n i
        ∙ ap (λ (z : Node). shape_tree (tree_among text xs) (shape text z)) j
        ∙ sym (shapes_agree (tree_among text (y ∷ xs)) (tree_among text xs) n
        (λ k l. tree_older text y xs k (omega (arith, i, l))) (shape text x) w)

    go : (node_among xs n ≡ Some x → Below n (shape_kids (shape text x))
        → tree_among text xs n ≡ shape_tree (tree_among text xs) (shape text x))
        → (b : Bool) → eqb n (length xs) ≡ b → cond b (Some y) (node_among xs n) ≡ Some x
        → tree_among text (y ∷ xs) n ≡ shape_tree (tree_among text (y ∷ xs)) (shape text x)
    go f true i j = at_newest (eqb-true n (length xs) i) (same_Some _ _ j)
    go f false i j =
        let l : n < length xs = node_below xs n x j in
        tree_older text y xs n l ∙ f j w
        ∙ sym (shapes_agree (tree_among text (y ∷ xs)) (tree_among text xs) n
        (λ k l2. tree_older text y xs k (omega (arith, l, l2))) (shape text x) w)
