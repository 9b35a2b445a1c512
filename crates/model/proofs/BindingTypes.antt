-- A tree in which a node does not bind does not bind.
use Rattle.std.proofs.Common.{◌≡◌, ℕ, true, List, [], ◌∷◌, length, Some, None, Option, sym, refl, ap, ◌∙◌, subst, inl}
use Rattle.std.proofs.Common.{inr, arith, length-take}
use Rattle.std.proofs.lemmas.Bool.{eqb-true}
use Rattle.std.specs.Option.{option_map}
use Rattle.vocabulary.specs.declared.refusals.BindingRefusal.TheVariants.{DoesNotBind}
use Rattle.vocabulary.specs.declared.refusals.Refusal.{Refusal}
use Rattle.vocabulary.specs.declared.refusals.Refusal.TheVariants.{Binding}
use Rattle.vocabulary.specs.declared.operators.Connective.{Connective}
use Rattle.vocabulary.specs.declared.types.DType.{DType}
use Rattle.meaning.specs.Columns.{Schemas}
use Rattle.meaning.specs.Hosts.{Meaning}
use Rattle.meaning.specs.Outcomes.{and_then}
use Rattle.meaning.specs.Trees.{Expr, logic}
use Rattle.meaning.specs.Typing.{typed, typed_all, fn_type, logic_type}
use Rattle.meaning.proofs.CaseSplits.{and_then_none}
use Rattle.model.specs.Stores.{Store}
use Rattle.model.specs.Shapes.{Head, join, over, shaped, trees_by, shape_tree, kids}
use Rattle.model.specs.Making.{head_counts}
use Rattle.model.specs.Soundness.{Below}
use Rattle.vocabulary.specs.Nodes.{UnboundNode}
use Rattle.model.specs.Unbound.{UnboundStore, unbound_at, seen, tree_for}
use Rattle.model.specs.UnboundMaking.{any_host}
use Rattle.model.specs.UnboundSoundness.{SoundUnbound, SoundUnboundNode}
use Rattle.model.specs.LawsOfRefusedBinding.{OneOf, StandsIn, itself, under, head_for, Cause}
use Rattle.model.specs.LawsOfRefusedBinding.{RefusedBinding, no_node, no_schema, work_short, at_node}
use Rattle.model.specs.LawsOfRefusedBinding.{TypesRefuseNoTreeThatBinds}
use Rattle.model.proofs.Children.{pair}
use Rattle.model.proofs.Numbers.{shape_kids, shown}
use Rattle.model.proofs.UnboundNumbers.{seen_among}
use Rattle.model.proofs.BindingCauses.{binding_refuses_for_causes, refused_bindings_change_nothing}

-- the children of a counted head are those of its shape
shape_below : (n : ℕ) (h : Head) (ks : List ℕ) → head_counts any_host h (length ks) ≡ true → Below n ks
    → Below n (shape_kids (shaped h ks))
shape_below n (join o) ks c w =
    let (i, j, e) = pair ks (eqb-true (length ks) 2 c) in
    subst (λ (z : List ℕ). Below n (shape_kids (shaped (join o) z))) (sym e) (subst (Below n) e w)
shape_below n (over f) ks c w = w

module _ (q : ℕ) (u : UnboundStore) (n : ℕ) (x : UnboundNode) (fine : SoundUnboundNode q u n x) where
  pub kids_counted : head_counts any_host (head_for q u x) (length (kids x)) ≡ true
  kids_counted =
      let few = fine.few in
      let long : length (kids x) ≡ x.child_count = simp (length-take, fine.eight) (omega arith) in
      ap (head_counts any_host (head_for q u x)) long ∙ fine.counted

  -- an unbound node's tree is its shape's, over the trees of its children
  pub shape_for : unbound_at u n ≡ Some x
      → tree_for q u n ≡ shape_tree (tree_for q u) (shaped (head_for q u x) (kids x))
  shape_for e =
      shown u.text _ n (seen q x)
      (seen_among q u.nodes n ∙ ap (option_map (seen q)) e)
      (shape_below n (head_for q u x) (kids x) kids_counted fine.older)

module _ (m : Meaning) (ss : Schemas) (f : ℕ → Expr) (k : ℕ) (none : typed m ss (f k) ≡ None) where
  among_none : (ks : List ℕ) → OneOf k ks → typed_all m ss (trees_by f ks) ≡ None
  among_none [] h = absurd h
  among_none (i ∷ is) (inl e) =
      ap
      (λ (o : Option DType).
      and_then o (λ (t : DType). and_then (typed_all m ss (trees_by f is)) (λ (ts : List DType). Some (t ∷ ts))))
      (ap (λ (z : ℕ). typed m ss (f z)) (sym e) ∙ none)
  among_none (i ∷ is) (inr h) =
      ap
      (λ (o : Option (List DType)).
      and_then (typed m ss (f i)) (λ (t : DType). and_then o (λ (ts : List DType). Some (t ∷ ts))))
      (among_none is h)
      ∙ and_then_none (typed m ss (f i))

  two_none : (o : Connective) (i j : ℕ) → OneOf k (i ∷ j ∷ []) → typed m ss (logic o (f i) (f j)) ≡ None
  two_none o i j (inl e) =
      ap (λ (z : Option DType). and_then z (λ (t : DType). and_then (typed m ss (f j)) (λ (v : DType). logic_type t v)))
      (ap (λ (z : ℕ). typed m ss (f z)) (sym e) ∙ none)
  two_none o i j (inr (inl e)) =
      ap (λ (z : Option DType). and_then (typed m ss (f i)) (λ (t : DType). and_then z (λ (v : DType). logic_type t v)))
      (ap (λ (z : ℕ). typed m ss (f z)) (sym e) ∙ none)
      ∙ and_then_none (typed m ss (f i))
  two_none o i j (inr (inr h)) = absurd h

  shape_none : (h : Head) (ks : List ℕ) → head_counts any_host h (length ks) ≡ true → OneOf k ks
      → typed m ss (shape_tree f (shaped h ks)) ≡ None
  shape_none (join o) ks c w =
      let (i, j, e) = pair ks (eqb-true (length ks) 2 c) in
      ap (λ (z : List ℕ). typed m ss (shape_tree f (shaped (join o) z))) e
      ∙ two_none o i j (subst (OneOf k) e w)
  shape_none (over g) ks c w =
      ap (λ (z : Option (List DType)). and_then z (λ (ts : List DType). fn_type m ss g ts)) (among_none ks w)

-- where a node of a tree does not bind, the tree does not
pub tree_none : (m : Meaning) (ss : Schemas) (u : UnboundStore) → SoundUnbound u → (q n j : ℕ)
    → StandsIn u.nodes n j → typed m ss (tree_for q u j) ≡ None → typed m ss (tree_for q u n) ≡ None
tree_none m ss u fine q n j itself e = e
tree_none m ss u fine q n j (under {k = k} x a w h) e =
    let r = fine.each q n x a in
    let none = tree_none m ss u fine q k j h e in
    ap (typed m ss) (shape_for q u n x r a)
    ∙ shape_none m ss (tree_for q u) k none (head_for q u x) (kids x) (kids_counted q u n x r) w

module _ (m : Meaning) (u : UnboundStore) (fine : SoundUnbound u) (s : Store) (n q work k : ℕ) where
  of_types : (r : Refusal) → r ≡ Binding (DoesNotBind k) → RefusedBinding m u n q work s r
      → typed m s.schemas (tree_for q u n) ≡ None
  of_types r e (no_node l) = absurd (grind arith)
  of_types r e (no_schema l h) = absurd (grind arith)
  of_types r e (work_short l h w) = absurd (grind arith)
  of_types r e (at_node l h w j x stands found (Cause.no_code c)) = absurd (grind arith)
  of_types r e (at_node l h w j x stands found (Cause.wrong_count c)) = absurd (grind arith)
  of_types r e (at_node l h w j x stands found (Cause.unbindable c)) =
      tree_none m s.schemas u fine q n j stands c
  of_types r e (at_node l h w j x stands found (Cause.records_full c)) = absurd (grind arith)
  of_types r e (at_node l h w j x stands found (Cause.text_full later g c)) = absurd (grind arith)

pub types_refuse_no_tree_that_binds : TypesRefuseNoTreeThatBinds
types_refuse_no_tree_that_binds m u fine s sound n q work k e =
    of_types m u fine s n q work k _ refl (binding_refuses_for_causes m u fine s sound n q work _ e)

pub ruleset binding_refuses =
    (refused_bindings_change_nothing, binding_refuses_for_causes, types_refuse_no_tree_that_binds)
