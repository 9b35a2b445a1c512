-- A node at which a binding is refused, and the store that those before it came to.
use Rattle.std.proofs.Common.{◌≡◌, ℕ, ◌+◌, ◌<◌, true, List, [], ◌∷◌, map, length, Some, Ok, Err, Result, sym, ap, ◌∙◌}
use Rattle.std.proofs.Common.{subst, inl, inr, arith}
use lib.ListN.{length-map}
use Rattle.vocabulary.specs.Nodes.{BoundNode as Node}
use Rattle.vocabulary.specs.declared.refusals.Refusal.{Refusal}
use Rattle.vocabulary.specs.Nodes.{padded}
use Rattle.meaning.specs.Hosts.{Meaning}
use Rattle.meaning.specs.Trees.{Expr, size}
use Rattle.model.specs.Stores.{Store, node_among}
use Rattle.model.specs.Shapes.{Head, head_of, shape, shaped, shape_tree, tree, kids}
use Rattle.model.specs.Wanted.{new_bytes, new_head}
use Rattle.model.specs.Making.{named, head_counts, build, entered}
use Rattle.model.specs.Soundness.{Below}
use Rattle.model.specs.LawsOfRefusing.{Refused}
use Rattle.vocabulary.specs.Nodes.{UnboundNode}
use Rattle.model.specs.Unbound.{rows, seen}
use Rattle.model.specs.BindingTrees.{asked, plan_at, bind_over}
use Rattle.model.specs.LawsOfRefusedBinding.{OneOf, StandsIn}
use Rattle.model.proofs.Children.{err_ok}
use Rattle.model.proofs.Missing.{err_same}
use Rattle.model.proofs.Numbers.{tree_older, node_below, node_older}
use Rattle.model.proofs.Refusing.{has_cause}
use Rattle.model.proofs.BindingSteps.{head_asked, padded_enough, padded_back, heads_agree}
use Rattle.model.proofs.BindingGranted.{Fit, kids_long, Kept, BoundAll, trees_in}

module _ (m : Meaning) (q : ℕ) (text : List ℕ) where
  -- a node that is refused, over children that are bound, in the store that those before it came to
  pub record Halt (xs : List UnboundNode) (s : Store) (r : Refusal) : Type 0 where
    pub at : ℕ
    pub node_of : UnboundNode
    pub found : node_among xs at ≡ Some node_of
    pub store : Store
    pub kept : Kept m s store
    pub bound : List ℕ
    pub long : length bound ≡ node_of.child_count
    pub there : Below (length store.nodes) bound
    pub cause :
        Refused m store at (head_of text (rows q) node_of.function) (new_bytes (asked q text node_of.function))
        (padded bound node_of.child_count) node_of.child_count (trees_in m q text xs at) r

  -- a node of the tree of n, when fewer nodes were made than the tree has places
  pub record Halted (xs : List UnboundNode) (n : ℕ) (s : Store) (r : Refusal) : Type 0 where
    pub halt : Halt xs s r
    pub stands : StandsIn xs n halt.at
    pub room : length halt.store.nodes < length s.nodes + size (trees_in m q text xs n)

  -- binding a number below the count of the nodes halts where it is refused
  abbrev pub Halts : List UnboundNode → ℕ → Store → Refusal → Type 0
  Halts xs n s r = n < length xs → Halted xs n s r

  -- the tree of an older node
  pub older_tree : (x : UnboundNode) (xs : List UnboundNode) (n : ℕ) → n < length xs
      → trees_in m q text (x ∷ xs) n ≡ trees_in m q text xs n
  older_tree x xs n l =
      let e : length (map (seen q) xs) ≡ length xs = length-map xs (seen q) in
      tree_older text (seen q x) (map (seen q) xs) n (omega arith)

  -- one more node in front, and from a store before
  abbrev pub lifted : (x : UnboundNode) (xs : List UnboundNode) (s t : Store) (r : Refusal) → Kept m s t → Halt xs t r
      → Halt (x ∷ xs) s r
  lifted x xs s t r kept h =
      let l = node_below xs h.at h.node_of h.found in
      record {
        at = h.at;
        node_of = h.node_of;
        found = node_older x xs h.at l ∙ h.found;
        store = h.store;
        kept = record {
          sound = h.kept.sound;
          grow = λ from g. h.kept.grow from (kept.grow from g);
        };
        bound = h.bound;
        long = h.long;
        there = h.there;
        cause =
            subst
            (λ (e : Expr).
            Refused m h.store h.at (head_of text (rows q) h.node_of.function)
            (new_bytes (asked q text h.node_of.function))
            (padded h.bound h.node_of.child_count) h.node_of.child_count e r)
            (sym (older_tree x xs h.at l))
            h.cause;
      }

  pub one_below : (n : ℕ) (ks : List ℕ) (k : ℕ) → Below n ks → OneOf k ks → k < n
  one_below n [] k w h = absurd h
  one_below n (i ∷ is) k w (inl e) = omega (arith, e, w.0)
  one_below n (i ∷ is) k w (inr h) = one_below n is k w.1 h

  entered_refused : (bs : List ℕ) (s : Store) (a : Result Node Refusal) (r : Refusal) (later : Store)
      → entered bs s a ≡ (Err r, later) → a ≡ Err r
  entered_refused bs s (Ok x) r later e = err_ok r _ (sym (ap (λ (z : Result ℕ Refusal × Store). z.0) e))
  entered_refused bs s (Err p) r later e = ap Err (err_same (ap (λ (z : Result ℕ Refusal × Store). z.0) e))

  -- a node that is refused over children that are bound
  pub over_refused : (g : ℕ → Expr) (at : ℕ) (x : UnboundNode) → Fit text at x → (s s1 : Store) (js : List ℕ)
      → BoundAll m g (kids x) s s1 js → (r : Refusal) (later : Store)
      → bind_over m q text at x js s1 ≡ (Err r, later)
      → Refused m s1 at (head_of text (rows q) x.function) (new_bytes (asked q text x.function))
      (padded js x.child_count) x.child_count (shape_tree g (shape text (seen q x))) r
  over_refused g at x fit s s1 js all r later e =
      let w = asked q text x.function in
      let n = x.child_count in
      let ks = kids x in
      let h = head_of text (rows q) x.function in
      let same : new_head w ≡ h = head_asked q text x.function in
      let kids : length ks ≡ n = kids_long text at x fit in
      let long : length js ≡ n = all.long ∙ kids in
      let tree_of : head_counts m (new_head w) n ≡ true
      → shape_tree (tree s1) (shaped (new_head w) (named (padded js n) n)) ≡ shape_tree g (shaped h ks) =
      λ c.
      ap (λ (z : List ℕ). shape_tree (tree s1) (shaped (new_head w) z)) (padded_back js n long fit.few)
      ∙ ap (λ (z : Head). shape_tree (tree s1) (shaped z js)) same
      ∙ heads_agree m (tree s1) g h js ks all.long
      (ap (head_counts m h) kids ∙ ap (λ (z : Head). head_counts m z n) (sym same) ∙ c) all.trees_are in
      subst
      (λ (z : Head).
      Refused m s1 at z (new_bytes w) (padded js n) n (shape_tree g (shape text (seen q x))) r)
      same
      (has_cause m s1 all.kept.sound (plan_at at w (padded js n) n s1) (padded_enough js n long fit.few)
      (shape_tree g (shape text (seen q x))) tree_of r
      (entered_refused (new_bytes w) s1 (build m (plan_at at w (padded js n) n s1) s1) r later e))
