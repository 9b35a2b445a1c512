-- What one step of binding does: a node made over children that are bound.
use Rattle.std.proofs.Common.{◌≡◌, ℕ, suc, ◌<◌, ◌≤◌, min, true, List, [], ◌∷◌, ◌++◌, length, take, drop, replicate}
use Rattle.std.proofs.Common.{Some, Ok, Err, Result, sym, refl, ap, ◌∙◌, subst, append_assoc, arith, length-append}
use Rattle.std.proofs.Common.{length-drop, length-take}
use Rattle.std.proofs.lemmas.List.{take_at, take_all}
use Rattle.std.proofs.lemmas.Bool.{eqb-true}
use Rattle.vocabulary.specs.declared.nodes.Function.{Function}
use Rattle.vocabulary.specs.declared.nodes.Function.TheVariants.{Root, Literal, GetItem, Cast, Binary, Between, Host}
use Rattle.vocabulary.specs.Nodes.{BoundNode as Node}
use Rattle.vocabulary.specs.declared.refusals.Refusal.{Refusal}
use Rattle.vocabulary.specs.Nodes.{padded}
use Rattle.meaning.specs.Hosts.{Meaning}
use Rattle.meaning.specs.Trees.{Expr, cons, nil, logic, node, size, sizes}
use Rattle.model.specs.Stores.{Store, node_among, node_at, grown}
use Rattle.model.specs.Shapes.{Head, join, over, head_of, shaped, trees_by, shape_tree, tree_among, tree}
use Rattle.model.specs.Wanted.{New, new_bytes, new_head}
use Rattle.model.specs.Making.{named, head_counts, build, entered}
use Rattle.model.specs.Soundness.{Sound}
use Rattle.model.specs.LawsOfMaking.{Grows}
use Rattle.model.specs.Unbound.{rows}
use Rattle.model.specs.BindingTrees.{onward, asked, plan_at, make_at}
use Rattle.model.proofs.Numbers.{node_older, node_below, tree_older}
use Rattle.model.proofs.Texts.{tree_kept}
use Rattle.model.proofs.Children.{err_ok, ok_same, pair}
use Rattle.model.proofs.Plans.{built, Honest, new_honest}
use Rattle.model.proofs.Growing.{within_all, grown_sound, planned_tree}

-- what an answer of two steps says of each
pub record Both {A B : Type 0} (p : Result A Refusal × Store) (f : A → Store → Result B Refusal × Store)
    (b : B) (later : Store) : Type 0 where
  pub answer : A
  pub between : Store
  pub before : p ≡ (Ok answer, between)
  pub after : f answer between ≡ (Ok b, later)

pub onward_ok : {A B : Type 0} (p : Result A Refusal × Store) (f : A → Store → Result B Refusal × Store)
    (b : B) (later : Store) → onward p f ≡ (Ok b, later) → Both p f b later
onward_ok (Ok a, s) f b later e = record { answer = a; between = s; before = refl; after = e }
onward_ok {A} {B} (Err r, s) f b later e = err_ok r b (ap (λ (z : Result B Refusal × Store). z.0) e)

-- one more node, after a store that has grown
pub grows_more : (from s : Store) (x : Node) (bs : List ℕ) → Grows from s → Grows from (grown x bs s)
grows_more from s x bs g = record {
  newer = x ∷ g.newer;
  more = g.more ++ bs;
  nodes = ap (λ (z : List Node). x ∷ z) g.nodes;
  text = ap (λ (z : List ℕ). z ++ bs) g.text ∙ append_assoc from.text g.more bs;
  schemas = g.schemas;
  records = g.records;
  bytes = g.bytes;
}

node_under : (newer xs : List Node) (n : ℕ) → n < length xs → node_among (newer ++ xs) n ≡ node_among xs n
node_under [] xs n l = refl
node_under (x ∷ newer) xs n l =
    let h : n < length (newer ++ xs) = simp length-append (omega arith) in
    node_older x (newer ++ xs) n h ∙ node_under newer xs n l

tree_under : (text : List ℕ) (newer xs : List Node) (n : ℕ) → n < length xs
    → tree_among text (newer ++ xs) n ≡ tree_among text xs n
tree_under text [] xs n l = refl
tree_under text (x ∷ newer) xs n l =
    let h : n < length (newer ++ xs) = simp length-append (omega arith) in
    tree_older text x (newer ++ xs) n h ∙ tree_under text newer xs n l

-- older nodes stay in a store that grows
module _ (m : Meaning) (s later : Store) (sound : Sound m s) (g : Grows s later) where
  pub tree_lasts : (n : ℕ) → n < length s.nodes → tree later n ≡ tree s n
  tree_lasts n l =
      ap (λ (z : List Node). tree_among later.text z n) g.nodes
      ∙ tree_under later.text g.newer s.nodes n l
      ∙ ap (λ (z : List ℕ). tree_among z s.nodes n) g.text
      ∙ tree_kept s.text g.more s.nodes
      (within_all s.text s.nodes (λ k y e. (sound.each k y e).ends)) n

  pub node_lasts : (n : ℕ) (x : Node) → node_at s n ≡ Some x → node_at later n ≡ Some x
  node_lasts n x e =
      ap (λ (z : List Node). node_among z n) g.nodes
      ∙ node_under g.newer s.nodes n (node_below s.nodes n x e)
      ∙ e

-- what is asked for computes what the unbound function does against the schema
pub head_asked : (q : ℕ) (text : List ℕ) (f : Function) → new_head (asked q text f) ≡ head_of text (rows q) f
head_asked q text Root = refl
head_asked q text (Literal t v) = refl
head_asked q text (GetItem name) = refl
head_asked q text (Cast t) = refl
head_asked q text (Binary o) = refl
head_asked q text (Between o) = refl
head_asked q text (Host c) = refl

-- so many numbers, at most eight, with zeros behind
module _ (js : List ℕ) (n : ℕ) (long : length js ≡ n) (few : n ≤ 8) where
  pub padded_long : length (padded js n) ≡ 8
  padded_long = simp (length-append, length-take, length-drop, long) (omega arith)

  -- they are as many as are named
  pub padded_enough : min n 8 ≤ length (padded js n)
  padded_enough = omega (arith, padded_long)

  pub padded_back : named (padded js n) n ≡ js
  padded_back =
      let all : take n js ≡ js = take_all n js (omega arith) in
      let e : min n 8 ≡ n = omega arith in
      ap (λ (z : ℕ). take z (padded js n)) e
      ∙ take_at (take n js) (drop n (replicate 8 0)) n (ap length all ∙ long)
      ∙ all

-- a node over like trees
module _ (m : Meaning) (f g : ℕ → Expr) where
  pub heads_agree : (h : Head) (js ks : List ℕ) → length js ≡ length ks → head_counts m h (length ks) ≡ true
      → trees_by f js ≡ trees_by g ks → shape_tree f (shaped h js) ≡ shape_tree g (shaped h ks)
  heads_agree (join o) js ks l c e =
      let two = eqb-true (length ks) 2 c in
      let (a, b, x) = pair js (l ∙ two) in
      let (i, j, y) = pair ks two in
      let w : cons (f a) (cons (f b) nil) ≡ cons (g i) (cons (g j) nil) =
      ap (trees_by f) (sym x) ∙ e ∙ ap (trees_by g) y in
      let u : f a ≡ g i = cc in
      let v : f b ≡ g j = cc in
      ap (λ (z : List ℕ). shape_tree f (shaped (join o) z)) x
      ∙ ap (λ (z : Expr). logic o z (f b)) u
      ∙ ap (λ (z : Expr). logic o (g i) z) v
      ∙ ap (λ (z : List ℕ). shape_tree g (shaped (join o) z)) (sym y)
  heads_agree (over c) js ks l k e = ap (node c) e

-- a node has one place more than its children
pub shape_size : (m : Meaning) (g : ℕ → Expr) (h : Head) (ks : List ℕ) → head_counts m h (length ks) ≡ true
    → size (shape_tree g (shaped h ks)) ≡ suc (sizes (trees_by g ks))
shape_size m g (join o) ks c =
    let (i, j, y) = pair ks (eqb-true (length ks) 2 c) in
    let P : List ℕ → Type 0 = λ z. size (shape_tree g (shaped (join o) z)) ≡ suc (sizes (trees_by g z)) in
    subst P (sym y) (omega arith)
shape_size m g (over f) ks c = refl

plan_honest : (m : Meaning) (s : Store) (k : ℕ) (w : New) (cs : List ℕ) (n : ℕ) → Honest m (plan_at k w cs n s) s
plan_honest m s k w cs n =
    let h = new_honest m s w cs n in record { computes = h.computes; ends = h.ends }

-- a node that was made over bound children
pub record Stepped (m : Meaning) (h : Head) (js : List ℕ) (s later : Store) (k : ℕ) : Type 0 where
  pub sound : Sound m later
  pub grow : (from : Store) → Grows from s → Grows from later
  pub tree_is : tree later k ≡ shape_tree (tree s) (shaped h js)
  pub number : k ≡ length s.nodes
  pub one_more : length later.nodes ≡ suc (length s.nodes)
  pub counted : head_counts m h (length js) ≡ true

pub stepped : (m : Meaning) (s : Store) → Sound m s → (at : ℕ) (w : New) (js : List ℕ) (n : ℕ) → length js ≡ n
    → n ≤ 8 → (k : ℕ) (later : Store) → make_at m at w (padded js n) n s ≡ (Ok k, later)
    → Stepped m (new_head w) js s later k
stepped m s sound at w js n long few k later e = go (build m (plan_at at w (padded js n) n s) s) refl e
  where
    go : (r : Result Node Refusal) → build m (plan_at at w (padded js n) n s) s ≡ r
        → entered (new_bytes w) s r ≡ (Ok k, later) → Stepped m (new_head w) js s later k
    go (Err r) a h = err_ok r k (ap (λ (z : Result ℕ Refusal × Store). z.0) h)
    go (Ok x) a h =
        let b = built m (plan_at at w (padded js n) n s) s x a in
        let number : length s.nodes ≡ k = ok_same (ap (λ (z : Result ℕ Refusal × Store). z.0) h) in
        let same : grown x (new_bytes w) s ≡ later = ap (λ (z : Result ℕ Refusal × Store). z.1) h in
        let honest = plan_honest m s at w (padded js n) n in
        let enough = padded_enough js n long few in
        subst (λ (z : Store). Stepped m (new_head w) js s z k) same
        (record {
          sound = grown_sound m s sound (plan_at at w (padded js n) n s) honest enough x b;
          grow = λ from g. grows_more from s x (new_bytes w) g;
          tree_is =
              ap (tree (grown x (new_bytes w) s)) (sym number)
              ∙ planned_tree m s sound (plan_at at w (padded js n) n s) honest enough x b
              ∙ ap (λ (z : List ℕ). shape_tree (tree s) (shaped (new_head w) z)) (padded_back js n long few);
          number = sym number;
          one_more = refl;
          counted = ap (head_counts m (new_head w)) long ∙ b.counted;
        })
