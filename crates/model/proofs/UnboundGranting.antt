-- What is granted in an unbound arena is the tree asked for, or the old one over other children.
use Rattle.std.proofs.Common.{◌≡◌, ℕ, zero, suc, ◌≤◌, min, true, List, [], ◌++◌, length, take, Some, None, Ok, Err}
use Rattle.std.proofs.Common.{Option, Result, sym, refl, ap, ◌∙◌, inl, inr, append-nil}
use Rattle.std.proofs.lemmas.Bool.{eqb-true}
use Rattle.vocabulary.specs.declared.nodes.Function.{Function}
use Rattle.vocabulary.specs.declared.nodes.Function.TheVariants.{Root, Literal, GetItem, Cast, Binary, Between, Host}
use Rattle.vocabulary.specs.Nodes.{BoundNode as Node}
use Rattle.vocabulary.specs.declared.refusals.Refusal.{Refusal}
use Rattle.meaning.specs.Trees.{Fn, Expr, node, nil}
use Rattle.model.specs.Shapes.{Head, over, head_of, shaped, trees_by, shape_tree, kids}
use Rattle.model.specs.Wanted.{new_bytes}
use Rattle.model.specs.Making.{named, head_counts, new_plan}
use Rattle.model.specs.Rebuilding.{old_plan}
use Rattle.model.specs.LawsOfMaking.{with_operands}
use Rattle.vocabulary.specs.Nodes.{UnboundNode}
use Rattle.model.specs.Unbound.{UnboundStore, unbound_at, unbound_grown, rows, seen}
use Rattle.vocabulary.specs.Nodes.{untyped}
use Rattle.model.specs.Unbound.{against, tree_for}
use Rattle.model.specs.UnboundMaking.{any_host, build_unbound, entered_unbound, itself_or_new, rebuilt_unbound}
use Rattle.model.specs.UnboundSoundness.{SoundUnbound}
use Rattle.model.specs.LawsOfUnbound.{for_schema, MadeUnbound, UnboundMadeAsAsked, RebuiltUnbound}
use Rattle.model.specs.LawsOfUnbound.{UnboundRebuiltOverOthers}
use Rattle.model.proofs.Children.{err_ok, ok_same}
use Rattle.model.proofs.Growing.{head_few, named_length}
use Rattle.model.proofs.Granting.{asked_tree, named_all}
use Rattle.model.proofs.Regranting.{over_others}
use Rattle.model.proofs.BindingTypes.{shape_for}
use Rattle.model.proofs.UnboundPlans.{built_unbound, new_honest_unbound, old_honest_unbound, new_computes, new_takes}
use Rattle.model.proofs.UnboundPlans.{same_takes}
use Rattle.model.proofs.UnboundGrowing.{planned_for}

pub unbound_made_as_asked : UnboundMadeAsAsked
unbound_made_as_asked u sound w cs n k enough e = go (build_unbound (new_plan w cs n (against 0 u)) u) refl e
  where
    go : (r : Result Node Refusal) → build_unbound (new_plan w cs n (against 0 u)) u ≡ r
        → (entered_unbound (new_bytes w) u r).0 ≡ Ok k → MadeUnbound w cs n u (entered_unbound (new_bytes w) u r).1 k
    go (Err r) a h = err_ok r k h
    go (Ok x) a h =
        let p = new_plan w cs n (against 0 u) in
        let b = built_unbound (new_plan w cs n (against 0 u)) u x a in
        let number : length u.nodes ≡ k = ok_same h in
        record {
          number = sym number;
          tree_is = λ q.
              ap (tree_for q (unbound_grown (untyped x) (new_bytes w) u)) (sym number)
              ∙ planned_for u sound (new_plan w cs n (against 0 u)) (new_honest_unbound u w cs n) enough x b q
              ∙ ap (λ (z : Head). shape_tree (tree_for q u) (shaped z (named cs n))) (new_computes q u.text w)
              ∙ asked_tree any_host (tree_for q u) cs n enough (for_schema q w) (new_takes q w n ∙ b.counted);
          one_more = refl;
          text_is = refl;
        }

-- what a function computes does not change behind no bytes
head_again : (q : ℕ) (all : List ℕ) (f : Function) → head_of (all ++ []) (rows q) f ≡ head_of all (rows q) f
head_again q all f = ap (λ (z : List ℕ). head_of z (rows q) f) (append-nil all)

module _ (u : UnboundStore) (sound : SoundUnbound u) (old : ℕ) (x : UnboundNode) (e : unbound_at u old ≡ Some x)
    (cs : List ℕ) (n : ℕ) (enough : min n 8 ≤ length cs) where
  -- the tree that rebuilding asks for
  others_for : (q : ℕ) → head_counts any_host (head_of u.text (rows q) x.function) n ≡ true
      → shape_tree (tree_for q u) (shaped (head_of u.text (rows q) x.function) (named cs n))
      ≡ with_operands (tree_for q u old) (trees_by (tree_for q u) (take n cs))
  others_for q c =
      let h = head_of u.text (rows q) x.function in
      let few = head_few any_host h n c in
      over_others any_host (tree_for q u) h (kids x) (named cs n)
      (ap (head_counts any_host h) (named_length cs n enough few) ∙ c)
      ∙ ap (λ (z : Expr). with_operands z (trees_by (tree_for q u) (named cs n)))
      (sym (shape_for q u old x (sound.each q old x e) e))
      ∙ ap (λ (ks : List ℕ). with_operands (tree_for q u old) (trees_by (tree_for q u) ks)) (named_all cs n few)

  anew : (k : ℕ) (r : Result Node Refusal) → build_unbound (old_plan old (seen 0 x) cs n (against 0 u)) u ≡ r
      → (entered_unbound [] u r).0 ≡ Ok k → RebuiltUnbound old cs n u (entered_unbound [] u r).1 k
  anew k (Err r) a h = err_ok r k h
  anew k (Ok y) a h =
      let b = built_unbound (old_plan old (seen 0 x) cs n (against 0 u)) u y a in
      let number : length u.nodes ≡ k = ok_same h in
      record {
        record_of = x;
        found = e;
        tree_is = λ q.
            ap (tree_for q (unbound_grown (untyped y) [] u)) (sym number)
            ∙ planned_for u sound (old_plan old (seen 0 x) cs n (against 0 u))
            (old_honest_unbound u old x cs n (sound.each 0 old x e).ends) enough y b q
            ∙ ap (λ (z : Head). shape_tree (tree_for q u) (shaped z (named cs n)))
            (head_again q u.text x.function)
            ∙ others_for q (same_takes q 0 u.text u.text x.function n ∙ b.counted);
        text_is = append-nil u.text;
        new_or_itself = inl (sym number, refl);
      }

  -- a Root is itself over no children
  root_itself : (q : ℕ) → x.function ≡ Root → tree_for q u old ≡ with_operands (tree_for q u old) nil
  root_itself q f =
      let r = sound.each q old x e in
      let h : head_of u.text (rows q) x.function ≡ over (Fn.root q) = ap (head_of u.text (rows q)) f in
      let c : x.child_count ≡ 0 =
      eqb-true x.child_count 0
      (sym (ap (λ (z : Head). head_counts any_host z x.child_count) h) ∙ r.counted) in
      let t : tree_for q u old ≡ node (Fn.root q) nil =
      shape_for q u old x r e
      ∙ ap (λ (z : Head). shape_tree (tree_for q u) (shaped z (kids x))) h
      ∙ ap (λ (z : ℕ). node (Fn.root q) (trees_by (tree_for q u) (take z x.children))) c in
      t ∙ sym (ap (λ (z : Expr). with_operands z nil) t)

  itself : (f : Function) → x.function ≡ f → (k : ℕ) (j : ℕ) → n ≡ j
      → (a : Result ℕ Refusal × UnboundStore) → (a.0 ≡ Ok k → RebuiltUnbound old cs n u a.1 k)
      → (itself_or_new old f j u a).0 ≡ Ok k → RebuiltUnbound old cs n u (itself_or_new old f j u a).1 k
  itself Root f k zero z a g h = record {
    record_of = x;
    found = e;
    tree_is = λ q.
        ap (tree_for q u) (sym (ok_same h)) ∙ root_itself q f
        ∙ ap (λ (i : ℕ). with_operands (tree_for q u old) (trees_by (tree_for q u) (take i cs))) (sym z);
    text_is = refl;
    new_or_itself = inr (f, z, sym (ok_same h), refl);
  }
  itself Root f k (suc j) z a g h = g h
  itself (Literal t v) f k j z a g h = g h
  itself (GetItem name) f k j z a g h = g h
  itself (Cast t) f k j z a g h = g h
  itself (Binary o) f k j z a g h = g h
  itself (Between o) f k j z a g h = g h
  itself (Host c) f k j z a g h = g h

  again : (k : ℕ) → (rebuilt_unbound old (Some x) cs n u).0 ≡ Ok k
      → RebuiltUnbound old cs n u (rebuilt_unbound old (Some x) cs n u).1 k
  again k h =
      itself x.function refl k n refl _
      (anew k (build_unbound (old_plan old (seen 0 x) cs n (against 0 u)) u) refl) h

pub unbound_rebuilt_over_others : UnboundRebuiltOverOthers
unbound_rebuilt_over_others u sound old cs n k enough e = go (unbound_at u old) refl e
  where
    go : (o : Option UnboundNode) → unbound_at u old ≡ o → (rebuilt_unbound old o cs n u).0 ≡ Ok k
        → RebuiltUnbound old cs n u (rebuilt_unbound old o cs n u).1 k
    go None a h = err_ok _ k h
    go (Some x) a h = again u sound old x a cs n enough k h
