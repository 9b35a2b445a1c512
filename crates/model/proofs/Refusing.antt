-- A plan is refused exactly for its causes.
use Rattle.std.proofs.Common.{◌≡◌, ℕ, suc, ◌+◌, ◌≤◌, min, true, false, ltb, leb, List, length, Some, None, Ok, Err}
use Rattle.std.proofs.Common.{Option, Result, sym, refl, ap, ◌∙◌, subst, inl, inr, arith}
use Rattle.std.proofs.lemmas.Bool.{leb-true, leb-false, ltb-true, ltb-false, le-leb, lt-leb, lt-ltb, le-ltb}
use Rattle.std.proofs.lemmas.Bool.{cond-true, cond-false}
use Rattle.vocabulary.specs.Nodes.{BoundNode as Node}
use Rattle.vocabulary.specs.declared.refusals.Refusal.{Refusal}
use Rattle.vocabulary.specs.declared.types.DType.{DType}
use Rattle.meaning.specs.Hosts.{Meaning}
use Rattle.meaning.specs.Trees.{Expr, depth, size}
use Rattle.meaning.specs.Typing.{typed}
use Rattle.model.specs.Stores.{Store}
use Rattle.model.specs.Shapes.{shaped, shape_tree, tree}
use Rattle.model.specs.Making.{Plan, named, looked_up, head_known, head_counts, head_type}
use Rattle.model.specs.Making.{types_of, deepest, total_size, sized, bound, over_children, build}
use Rattle.model.specs.Soundness.{Sound}
use Rattle.model.specs.LawsOfRefusing.{Counted, Fine, Refused, no_node, no_code, wrong_count}
use Rattle.model.specs.LawsOfRefusing.{unbound, too_deep, too_large, records_full, text_full}
use Rattle.model.proofs.Children.{err_ok, found_below, below_found, type_is, depth_is, size_is}
use Rattle.model.proofs.Growing.{head_few, named_length}
use Rattle.model.proofs.Missing.{err_same, either, missing_first, first_missing}

-- a plan that passes the checks of children, code and count, and for a tree e those of type, depth and size
abbrev pub CountedPlan : Meaning → Store → Plan → Type 0
CountedPlan m s p = Counted m s p.head p.children p.count

abbrev pub FinePlan : Meaning → Store → Plan → Expr → Type 0
FinePlan m s p e = Fine m s p.head p.children p.count e

-- a plan for the tree e is refused
abbrev pub RefusedPlan : Meaning → Store → Plan → Expr → Refusal → Type 0
RefusedPlan m s p e r = Refused m s p.place p.head p.adds p.children p.count e r

module _ (m : Meaning) (s : Store) (sound : Sound m s) (p : Plan)
    (enough : min p.count 8 ≤ length p.children) (e : Expr)
    (same : head_counts m p.head p.count ≡ true
    → shape_tree (tree s) (shaped p.head (named p.children p.count)) ≡ e) where
  counts_named : head_counts m p.head p.count ≡ true
      → head_counts m p.head (length (named p.children p.count)) ≡ true
  counts_named c =
      ap (head_counts m p.head) (named_length p.children p.count enough (head_few m p.head p.count c)) ∙ c

  -- what the records of the children say of the tree asked for
  module _ (xs : List Node) (found : looked_up s (named p.children p.count) ≡ Ok xs)
      (c : head_counts m p.head p.count ≡ true) where
    type_of_tree : typed m s.schemas e ≡ head_type m s.schemas p.head (types_of xs)
    type_of_tree =
        ap (typed m s.schemas) (sym (same c))
        ∙ type_is m s sound p.head (named p.children p.count) xs (counts_named c) found

    depth_of : suc (deepest xs) ≡ depth e
    depth_of =
        depth_is m s sound p.head (named p.children p.count) xs (counts_named c) found ∙ ap depth (same c)

    size_of : suc (total_size xs) ≡ size e
    size_of =
        size_is m s sound p.head (named p.children p.count) xs (counts_named c) found ∙ ap size (same c)

    -- refused by the last checks
    sized_refused : CountedPlan m s p → (t : DType) → typed m s.schemas e ≡ Some t → (r : Refusal)
        → sized p s xs t ≡ Err r → RefusedPlan m s p e r
    sized_refused k t b r h =
        elim (either (leb (suc (deepest xs)) 256) _ _ r h) [
          | inl w ↦ subst (RefusedPlan m s p e) w.1
              (too_deep k t b (omega (arith, depth_of, leb-false (suc (deepest xs)) 256 w.0)))
          | inr w ↦
              let d : depth e ≤ 256 = omega (arith, depth_of, leb-true (suc (deepest xs)) 256 w.0) in
              elim (either (leb (suc (total_size xs)) 4096) _ _ r w.1) [
                | inl v ↦ subst (RefusedPlan m s p e) v.1
                    (too_large k t b d (omega (arith, size_of, leb-false (suc (total_size xs)) 4096 v.0)))
                | inr v ↦
                    let z : size e ≤ 4096 = omega (arith, size_of, leb-true (suc (total_size xs)) 4096 v.0) in
                    let f : FinePlan m s p e = record { counted = k; type = t; binds = b; shallow = d; small = z } in
                    elim (either (ltb (length s.nodes) s.records) _ _ r v.1) [
                      | inl u ↦ subst (RefusedPlan m s p e) u.1
                          (records_full f (ltb-false (length s.nodes) s.records u.0))
                      | inr u ↦
                          elim (either (leb (length s.text + length p.adds) s.bytes) _ _ r u.1) [
                            | inl q ↦ subst (RefusedPlan m s p e) q.1
                                (text_full f (ltb-true (length s.nodes) s.records u.0)
                                (leb-false (length s.text + length p.adds) s.bytes q.0))
                            | inr q ↦ err_ok r _ (sym q.1)
                          ]
                    ]
              ]
        ]

    bound_refused : CountedPlan m s p → (o : Option DType) → typed m s.schemas e ≡ o → (r : Refusal)
        → bound p s xs o ≡ Err r → RefusedPlan m s p e r
    bound_refused k None b r h = subst (RefusedPlan m s p e) (err_same h) (unbound k b)
    bound_refused k (Some t) b r h = sized_refused k t b r h

  children_refused : (l : Result (List Node) ℕ) → looked_up s (named p.children p.count) ≡ l → (r : Refusal)
      → over_children m p s l ≡ Err r → RefusedPlan m s p e r
  children_refused (Err k) a r h =
      subst (RefusedPlan m s p e) (err_same h) (no_node k (missing_first s (named p.children p.count) k a))
  children_refused (Ok xs) a r h =
      let w = found_below s (named p.children p.count) xs a in
      elim (either (head_known m p.head) _ _ r h) [
        | inl v ↦ subst (RefusedPlan m s p e) v.1 (no_code w v.0)
        | inr v ↦
            elim (either (head_counts m p.head p.count) _ _ r v.1) [
              | inl u ↦ subst (RefusedPlan m s p e) u.1 (wrong_count w v.0 u.0)
              | inr u ↦
                  bound_refused xs a u.0 (record { there = w; known = v.0; counts = u.0 })
                  (head_type m s.schemas p.head (types_of xs)) (type_of_tree xs a u.0) r u.1
            ]
      ]

  -- a refusal has its cause
  pub has_cause : (r : Refusal) → build m p s ≡ Err r → RefusedPlan m s p e r
  unfolding build
  has_cause r h = children_refused (looked_up s (named p.children p.count)) refl r h

  -- how far a plan comes
  reaches_children : (xs : List Node) → looked_up s (named p.children p.count) ≡ Ok xs
      → build m p s ≡ over_children m p s (Ok xs)
  unfolding build
  reaches_children xs a = ap (over_children m p s) a

  reaches_types : (k : CountedPlan m s p) (xs : List Node) → looked_up s (named p.children p.count) ≡ Ok xs
      → build m p s ≡ bound p s xs (typed m s.schemas e)
  reaches_types k xs a =
      reaches_children xs a
      ∙ cond-true (head_known m p.head) _ _ k.known
      ∙ cond-true (head_counts m p.head p.count) _ _ k.counts
      ∙ ap (bound p s xs) (sym (type_of_tree xs a k.counts))

  reaches_sizes : (k : CountedPlan m s p) (xs : List Node) → looked_up s (named p.children p.count) ≡ Ok xs
      → (t : DType) → typed m s.schemas e ≡ Some t → build m p s ≡ sized p s xs t
  reaches_sizes k xs a t b = reaches_types k xs a ∙ ap (bound p s xs) b

  within_depth : (k : CountedPlan m s p) (xs : List Node) → looked_up s (named p.children p.count) ≡ Ok xs
      → depth e ≤ 256 → leb (suc (deepest xs)) 256 ≡ true
  within_depth k xs a d = le-leb (suc (deepest xs)) 256 (omega (arith, depth_of xs a k.counts))

  within_size : (k : CountedPlan m s p) (xs : List Node) → looked_up s (named p.children p.count) ≡ Ok xs
      → size e ≤ 4096 → leb (suc (total_size xs)) 4096 ≡ true
  within_size k xs a d = le-leb (suc (total_size xs)) 4096 (omega (arith, size_of xs a k.counts))

  -- a cause refuses
  pub is_refused : (r : Refusal) → RefusedPlan m s p e r → build m p s ≡ Err r
  unfolding build
  is_refused r (no_node k f) =
      ap (over_children m p s)
      (ap (looked_up s) f.split ∙ first_missing s f.front k f.back f.there f.missing)
  is_refused r (no_code w h) =
      let (xs, a) = below_found s (named p.children p.count) w in
      reaches_children xs a ∙ cond-false (head_known m p.head) _ _ h
  is_refused r (wrong_count w h c) =
      let (xs, a) = below_found s (named p.children p.count) w in
      reaches_children xs a ∙ cond-true (head_known m p.head) _ _ h
      ∙ cond-false (head_counts m p.head p.count) _ _ c
  is_refused r (unbound k b) =
      let (xs, a) = below_found s (named p.children p.count) k.there in
      reaches_types k xs a ∙ ap (bound p s xs) b
  is_refused r (too_deep k t b d) =
      let (xs, a) = below_found s (named p.children p.count) k.there in
      let h : leb (suc (deepest xs)) 256 ≡ false =
      lt-leb (suc (deepest xs)) 256 (omega (arith, depth_of xs a k.counts)) in
      reaches_sizes k xs a t b ∙ cond-false (leb (suc (deepest xs)) 256) _ _ h
  is_refused r (too_large k t b d z) =
      let (xs, a) = below_found s (named p.children p.count) k.there in
      let h : leb (suc (total_size xs)) 4096 ≡ false =
      lt-leb (suc (total_size xs)) 4096 (omega (arith, size_of xs a k.counts)) in
      reaches_sizes k xs a t b
      ∙ cond-true (leb (suc (deepest xs)) 256) _ _ (within_depth k xs a d)
      ∙ cond-false (leb (suc (total_size xs)) 4096) _ _ h
  is_refused r (records_full f h) =
      let k = f.counted in
      let (xs, a) = below_found s (named p.children p.count) k.there in
      reaches_sizes k xs a f.type f.binds
      ∙ cond-true (leb (suc (deepest xs)) 256) _ _ (within_depth k xs a f.shallow)
      ∙ cond-true (leb (suc (total_size xs)) 4096) _ _ (within_size k xs a f.small)
      ∙ cond-false (ltb (length s.nodes) s.records) _ _ (le-ltb (length s.nodes) s.records h)
  is_refused r (text_full f l h) =
      let k = f.counted in
      let (xs, a) = below_found s (named p.children p.count) k.there in
      reaches_sizes k xs a f.type f.binds
      ∙ cond-true (leb (suc (deepest xs)) 256) _ _ (within_depth k xs a f.shallow)
      ∙ cond-true (leb (suc (total_size xs)) 4096) _ _ (within_size k xs a f.small)
      ∙ cond-true (ltb (length s.nodes) s.records) _ _ (lt-ltb (length s.nodes) s.records l)
      ∙ cond-false (leb (length s.text + length p.adds) s.bytes) _ _
      (lt-leb (length s.text + length p.adds) s.bytes h)
