-- What is rebuilt is the old tree over the other children.
use Rattle.std.proofs.Common.{◌≡◌, ℕ, zero, suc, ◌≤◌, min, true, List, [], length, take, Some, None, Ok, Err, Option}
use Rattle.std.proofs.Common.{Result, sym, refl, ap, ◌∙◌, subst, inl, inr, append-nil, arith, length-take}
use Rattle.std.proofs.lemmas.Bool.{eqb-true}
use Rattle.vocabulary.specs.declared.nodes.Function.{Function}
use Rattle.vocabulary.specs.declared.nodes.Function.TheVariants.{Root, Literal, GetItem, Cast, Binary, Between, Host}
use Rattle.vocabulary.specs.Nodes.{BoundNode as Node}
use Rattle.vocabulary.specs.declared.refusals.Refusal.{Refusal}
use Rattle.vocabulary.specs.Types.{carried}
use Rattle.meaning.specs.Hosts.{Meaning}
use Rattle.meaning.specs.Trees.{Fn, Expr, node, nil}
use Rattle.model.specs.Stores.{Store, node_at, grown}
use Rattle.model.specs.Shapes.{Head, join, over, head, head_of, kids, shaped, trees_by, shape_tree, tree, trees}
use Rattle.model.specs.Making.{named, head_counts, build, entered}
use Rattle.model.specs.Rebuilding.{old_plan, itself_or, rebuilt}
use Rattle.model.specs.Soundness.{Below, Sound}
use Rattle.model.specs.LawsOfMaking.{TreesByShapes, with_operands, Rebuilt, RebuiltOverOthers}
use Rattle.model.proofs.Numbers.{shown, shape_kids}
use Rattle.model.proofs.Children.{err_ok, ok_same, pair}
use Rattle.model.proofs.Plans.{built, old_honest}
use Rattle.model.proofs.Growing.{head_few, named_length, planned_tree}
use Rattle.model.proofs.Granting.{named_all}

-- the children of a sound record are those of its shape
kids_below : (m : Meaning) (n : ℕ) (h : Head) (ks : List ℕ) → head_counts m h (length ks) ≡ true → Below n ks
    → Below n (shape_kids (shaped h ks))
kids_below m n (join o) ks c w =
    let (i, j, e) = pair ks (eqb-true (length ks) 2 c) in
    subst (λ (z : List ℕ). Below n (shape_kids (shaped (join o) z))) (sym e) (subst (Below n) e w)
kids_below m n (over f) ks c w = w

pub trees_by_shapes : TreesByShapes
trees_by_shapes m s sound k x e =
    let r = sound.each k x e in
    let h = r.few in
    let l : length (kids x) ≡ x.child_count = simp (length-take, r.eight) (omega arith) in
    let c = ap (head_counts m (head s.text x)) l ∙ r.counted in
    shown s.text s.nodes k x e (kids_below m k (head s.text x) (kids x) c r.older)

-- a shape over other children
pub over_others : (m : Meaning) (f : ℕ → Expr) (h : Head) (ks ls : List ℕ) → head_counts m h (length ls) ≡ true
    → shape_tree f (shaped h ls) ≡ with_operands (shape_tree f (shaped h ks)) (trees_by f ls)
over_others m f (join o) ks ls c =
    let (i, j, e) = pair ls (eqb-true (length ls) 2 c) in
    let P : List ℕ → Type 0 = λ z. shape_tree f (shaped (join o) z)
    ≡ with_operands (shape_tree f (shaped (join o) ks)) (trees_by f z) in
    subst P (sym e) refl
over_others m f (over g) ks ls c = refl

module _ (m : Meaning) (s : Store) (sound : Sound m s) (old : ℕ) (x : Node) (e : node_at s old ≡ Some x)
    (cs : List ℕ) (n : ℕ) (enough : min n 8 ≤ length cs) where
  -- the tree that rebuilding asks for
  pub other_tree : head_counts m (head s.text x) n ≡ true
      → shape_tree (tree s) (shaped (head s.text x) (named cs n))
      ≡ with_operands (tree s old) (trees s (take n cs))
  other_tree c =
      let few = head_few m (head s.text x) n c in
      let l : length (named cs n) ≡ n = named_length cs n enough few in
      over_others m (tree s) (head s.text x) (kids x) (named cs n) (ap (head_counts m (head s.text x)) l ∙ c)
      ∙ ap (λ (z : Expr). with_operands z (trees s (named cs n))) (sym (trees_by_shapes m s sound old x e))
      ∙ ap (λ (ks : List ℕ). with_operands (tree s old) (trees s ks)) (named_all cs n few)

  anew : (k : ℕ) (r : Result Node Refusal) → build m (old_plan old x cs n s) s ≡ r
      → (entered [] s r).0 ≡ Ok k → Rebuilt m old cs n s (entered [] s r).1 k
  anew k (Err r) a h = err_ok r k h
  anew k (Ok y) a h =
      let b = built m (old_plan old x cs n s) s y a in
      let number : length s.nodes ≡ k = ok_same h in
      record {
        record_of = x;
        found = e;
        tree_is =
            ap (tree (grown y [] s)) (sym number)
            ∙ planned_tree m s sound (old_plan old x cs n s) (old_honest m s old x cs n (sound.each old x e)) enough y b
            ∙ other_tree b.counted;
        text_is = append-nil s.text;
        new_or_itself = inl (sym number, refl);
      }

  -- a Root is itself over no children
  root_itself : x.function ≡ Root → tree s old ≡ with_operands (tree s old) nil
  root_itself f =
      let h : head s.text x ≡ over (Fn.root (carried x.dtype.kind)) = ap (head_of s.text x.dtype) f in
      let r = sound.each old x e in
      let c : x.child_count ≡ 0 =
      eqb-true x.child_count 0
      (sym (ap (λ (z : Head). head_counts m z x.child_count) h) ∙ r.counted) in
      let t : tree s old ≡ node (Fn.root (carried x.dtype.kind)) nil =
      trees_by_shapes m s sound old x e
      ∙ ap (λ (z : Head). shape_tree (tree s) (shaped z (kids x))) h
      ∙ ap (λ (z : ℕ). node (Fn.root (carried x.dtype.kind)) (trees_by (tree s) (take z x.children))) c in
      t ∙ sym (ap (λ (z : Expr). with_operands z nil) t)

  itself : (f : Function) → x.function ≡ f → (k : ℕ) (j : ℕ) → n ≡ j
      → (a : Result ℕ Refusal × Store) → (a.0 ≡ Ok k → Rebuilt m old cs n s a.1 k)
      → (itself_or old f j s a).0 ≡ Ok k → Rebuilt m old cs n s (itself_or old f j s a).1 k
  itself Root f k zero z a g h = record {
    record_of = x;
    found = e;
    tree_is =
        ap (tree s) (sym (ok_same h)) ∙ root_itself f
        ∙ ap (λ (i : ℕ). with_operands (tree s old) (trees s (take i cs))) (sym z);
    text_is = refl;
    new_or_itself = inr (f, z, sym (ok_same h), refl);
  }
  itself Root f k (suc j) z a g h = g h
  itself (Literal t v) f k j z a g h = g h
  itself (GetItem name) f k j z a g h = g h
  itself (Cast t) f k j z a g h = g h
  itself (Binary o) f k j z a g h = g h
  itself (Between o) f k j z a g h = g h
  itself (Host c) f k j z a g h = g h

  found_again : (k : ℕ) → (rebuilt m old (Some x) cs n s).0 ≡ Ok k
      → Rebuilt m old cs n s (rebuilt m old (Some x) cs n s).1 k
  found_again k h = itself x.function refl k n refl _ (anew k (build m (old_plan old x cs n s) s) refl) h

pub rebuilt_over_others : RebuiltOverOthers
rebuilt_over_others m s sound old cs n k enough e = go (node_at s old) refl e
  where
    go : (o : Option Node) → node_at s old ≡ o → (rebuilt m old o cs n s).0 ≡ Ok k
        → Rebuilt m old cs n s (rebuilt m old o cs n s).1 k
    go None a h = err_ok _ k h
    go (Some x) a h = found_again m s sound old x a cs n enough k h
