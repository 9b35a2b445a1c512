-- A granted binding: the tree against the schema, one node for each place, in a store that stays sound.
use Rattle.std.proofs.Common.{◌≡◌, ℕ, suc, ◌+◌, ◌<◌, ◌≤◌, Bool, true, false, cond, eqb, List, [], ◌∷◌, map, length}
use Rattle.std.proofs.Common.{Ok, Result, sym, refl, ap, ◌∙◌, subst, arith, length-take}
use lib.ListN.{length-map}
use Rattle.std.proofs.lemmas.Bool.{eqb-true}
use Rattle.vocabulary.specs.declared.refusals.Refusal.{Refusal}
use Rattle.vocabulary.specs.Nodes.{BoundNode as Node}
use Rattle.meaning.specs.Hosts.{Meaning}
use Rattle.meaning.specs.Trees.{Expr, cons, size, sizes}
use Rattle.model.specs.Stores.{Store}
use Rattle.model.specs.Shapes.{Head, head_of, shape, shaped, trees_by, shape_tree, tree_among, tree, kids}
use Rattle.model.specs.Wanted.{new_head}
use Rattle.model.specs.Making.{head_counts}
use Rattle.model.specs.Soundness.{Below, Sound}
use Rattle.model.specs.LawsOfMaking.{Grows}
use Rattle.vocabulary.specs.Nodes.{UnboundNode}
use Rattle.model.specs.Unbound.{rows, seen}
use Rattle.model.specs.UnboundMaking.{any_host}
use Rattle.model.specs.BindingTrees.{onward, asked, bind_over, bind_all, bind_among}
use Rattle.model.proofs.Adding.{steps_only_add}
use Rattle.model.proofs.Children.{err_ok, ok_same}
use Rattle.model.proofs.Numbers.{tree_newest}
use Rattle.model.proofs.BindingSteps.{onward_ok, tree_lasts, head_asked, heads_agree, shape_size, stepped}

-- a record of the number n, over that text, whose children are older and as many as they may be
pub record Fit (text : List ℕ) (n : ℕ) (x : UnboundNode) : Type 0 where
  pub older : Below n (kids x)
  pub counted : (q : ℕ) → head_counts any_host (head_of text (rows q) x.function) x.child_count ≡ true
  pub eight : length x.children ≡ 8
  pub few : x.child_count ≤ 8

abbrev pub Fits : List ℕ → List UnboundNode → Type 0
Fits text [] = Unit {0}
Fits text (x ∷ xs) = Fit text (length xs) x × Fits text xs

pub kids_long : (text : List ℕ) (n : ℕ) (x : UnboundNode) → Fit text n x
    → length (kids x) ≡ x.child_count
kids_long text n x f =
    let few = f.few in
    simp (length-take, f.eight) (omega arith)

-- the store after a binding: sound, and grown
pub record Kept (m : Meaning) (s later : Store) : Type 0 where
  pub sound : Sound m later
  pub grow : (from : Store) → Grows from s → Grows from later

pub grown_from : (m : Meaning) (s later : Store) → Kept m s later → Grows s later
grown_from m s later k = k.grow s (steps_only_add m s [])

-- a node bound to the tree e
pub record Bound (m : Meaning) (e : Expr) (s later : Store) (k : ℕ) : Type 0 where
  pub kept : Kept m s later
  pub tree_is : tree later k ≡ e
  pub as_many : length later.nodes ≡ length s.nodes + size e
  pub last : suc k ≡ length later.nodes

-- numbers bound to the trees of others
pub record BoundAll (m : Meaning) (g : ℕ → Expr) (ks : List ℕ) (s later : Store) (js : List ℕ) : Type 0 where
  pub kept : Kept m s later
  pub trees_are : trees_by (tree later) js ≡ trees_by g ks
  pub as_many : length later.nodes ≡ length s.nodes + sizes (trees_by g ks)
  pub long : length js ≡ length ks
  pub there : Below (length later.nodes) js

-- each binding by f that is granted binds to the tree by g
abbrev pub Binds : Meaning → (ℕ → Store → Result ℕ Refusal × Store) → (ℕ → Expr) → Type 0
Binds m f g =
    (n : ℕ) (s : Store) → Sound m s → (k : ℕ) (later : Store) → f n s ≡ (Ok k, later) → Bound m (g n) s later k

pub all_granted : (m : Meaning) (f : ℕ → Store → Result ℕ Refusal × Store) (g : ℕ → Expr) → Binds m f g
    → (ks : List ℕ) (s : Store) → Sound m s → (js : List ℕ) (later : Store) → bind_all f ks s ≡ (Ok js, later)
    → BoundAll m g ks s later js
all_granted m f g one [] s sound js later e =
    let a : [] ≡ js = ok_same (ap (λ (z : Result (List ℕ) Refusal × Store). z.0) e) in
    let b : s ≡ later = ap (λ (z : Result (List ℕ) Refusal × Store). z.1) e in
    subst (λ (z : Store). BoundAll m g [] s z js) b
    (subst (BoundAll m g [] s s) a
    (record {
      kept = record { sound = sound; grow = λ from h. h };
      trees_are = refl;
      as_many = omega arith;
      long = refl;
      there = tt;
    }))
all_granted m f g one (k ∷ ks) s sound js later e =
    let p = onward_ok (f k s) _ js later e in
    let j = p.answer in
    let s1 = p.between in
    let first = one k s sound j s1 p.before in
    let r = onward_ok (bind_all f ks s1) _ js later p.after in
    let is = r.answer in
    let s2 = r.between in
    let rest = all_granted m f g one ks s1 first.kept.sound is s2 r.before in
    let a : j ∷ is ≡ js = ok_same (ap (λ (z : Result (List ℕ) Refusal × Store). z.0) r.after) in
    let b : s2 ≡ later = ap (λ (z : Result (List ℕ) Refusal × Store). z.1) r.after in
    let below : j < length s1.nodes = omega (arith, first.last) in
    let lasts = tree_lasts m s1 s2 first.kept.sound (grown_from m s1 s2 rest.kept) j below in
    subst (λ (z : Store). BoundAll m g (k ∷ ks) s z js) b
    (subst (BoundAll m g (k ∷ ks) s s2) a
    (record {
      kept = record {
        sound = rest.kept.sound;
        grow = λ from h. rest.kept.grow from (first.kept.grow from h);
      };
      trees_are =
          ap (λ (z : Expr). cons z (trees_by (tree s2) is)) (lasts ∙ first.tree_is)
          ∙ ap (cons (g k)) rest.trees_are;
      as_many = omega (arith, first.as_many, rest.as_many);
      long = ap suc rest.long;
      there = (omega (arith, below, rest.as_many), rest.there);
    }))

-- the tree of a number that is not the newest
pub tree_other : (text : List ℕ) (x : Node) (xs : List Node) (n : ℕ) → eqb n (length xs) ≡ false
    → tree_among text (x ∷ xs) n ≡ tree_among text xs n
unfolding tree_among
tree_other text x xs n e =
    ap (λ (b : Bool). cond b (shape_tree (tree_among text xs) (shape text x)) (tree_among text xs n)) e

module _ (m : Meaning) (q : ℕ) (text : List ℕ) where
  -- the trees of the numbers among unbound nodes
  abbrev pub trees_in : List UnboundNode → ℕ → Expr
  trees_in xs n = tree_among text (map (seen q) xs) n

  -- a node over children that are bound
  pub over_granted : (g : ℕ → Expr) (at : ℕ) (x : UnboundNode) → Fit text at x → (s s1 : Store) (js : List ℕ)
      → BoundAll m g (kids x) s s1 js → (k : ℕ) (later : Store)
      → bind_over m q text at x js s1 ≡ (Ok k, later)
      → Bound m (shape_tree g (shape text (seen q x))) s later k
  over_granted g at x fit s s1 js all k later e =
      let w = asked q text x.function in
      let ks = kids x in
      let h = head_of text (rows q) x.function in
      let same : new_head w ≡ h = head_asked q text x.function in
      let long : length js ≡ x.child_count = all.long ∙ kids_long text at x fit in
      let t = stepped m s1 all.kept.sound at w js x.child_count long fit.few k later e in
      let counted : head_counts m h (length ks) ≡ true =
      ap (head_counts m h) (sym all.long) ∙ ap (λ (z : Head). head_counts m z (length js)) (sym same)
      ∙ t.counted in
      let more = shape_size m g h ks counted in
      record {
        kept = record { sound = t.sound; grow = λ from i. t.grow from (all.kept.grow from i) };
        tree_is =
            t.tree_is
            ∙ ap (λ (z : Head). shape_tree (tree s1) (shaped z js)) same
            ∙ heads_agree m (tree s1) g h js ks all.long counted all.trees_are;
        as_many = omega (arith, t.one_more, all.as_many, more);
        last = omega (arith, t.number, t.one_more);
      }

  pub granted : (xs : List UnboundNode) → Fits text xs → Binds m (bind_among m q text xs) (trees_in xs)
  unfolding bind_among
  granted [] fits n s sound k later e = err_ok _ k (ap (λ (z : Result ℕ Refusal × Store). z.0) e)
  granted (x ∷ xs) fits n s sound k later e = go (granted xs fits.1) (eqb n (length xs)) refl e
    where
      go : Binds m (bind_among m q text xs) (trees_in xs) → (b : Bool) → eqb n (length xs) ≡ b
          → cond b (onward (bind_all (bind_among m q text xs) (kids x) s) (bind_over m q text n x))
          (bind_among m q text xs n s) ≡ (Ok k, later) → Bound m (trees_in (x ∷ xs) n) s later k
      go one true a h =
          let i : n ≡ length xs = eqb-true n (length xs) a in
          let p = onward_ok (bind_all (bind_among m q text xs) (kids x) s) (bind_over m q text n x) k later h in
          let all =
          all_granted m (bind_among m q text xs) (trees_in xs) one (kids x) s sound p.answer p.between
          p.before in
          let fit : Fit text n x = subst (λ (z : ℕ). Fit text z x) (sym i) fits.0 in
          let newest : trees_in (x ∷ xs) n ≡ shape_tree (trees_in xs) (shape text (seen q x)) =
          tree_newest text (seen q x) (map (seen q) xs) n (i ∙ sym (length-map xs (seen q))) in
          subst (λ (z : Expr). Bound m z s later k) (sym newest)
          (over_granted (trees_in xs) n x fit s p.between p.answer all k later p.after)
      go one false a h =
          let other : trees_in (x ∷ xs) n ≡ trees_in xs n =
          tree_other text (seen q x) (map (seen q) xs) n (ap (eqb n) (length-map xs (seen q)) ∙ a) in
          subst (λ (z : Expr). Bound m z s later k) (sym other) (one n s sound k later h)
