-- Making and rebuilding look at the first so many children alone.
use Rattle.std.proofs.Common.{◌≡◌, ℕ, suc, ◌+◌, ◌≤◌, min, ltb, leb, List, [], ◌++◌, length, drop, replicate, Some}
use Rattle.std.proofs.Common.{None, Ok, Err, Option, Result, sym, refl, ap, ◌∙◌, arith}
use Rattle.vocabulary.specs.declared.nodes.Function.{Function}
use Rattle.vocabulary.specs.declared.refusals.BindingRefusal.TheVariants.{NoSuchCode, WrongChildCount}
use Rattle.vocabulary.specs.declared.refusals.BindingRefusal.TheVariants.{TooDeep, TooLarge}
use Rattle.vocabulary.specs.declared.refusals.MemoryRefusal.TheVariants.{RecordsFull, TextFull}
use Rattle.vocabulary.specs.declared.refusals.Refusal.{Refusal}
use Rattle.vocabulary.specs.declared.refusals.Refusal.TheVariants.{Memory, Binding}
use Rattle.vocabulary.specs.declared.types.DType.{DType}
use Rattle.vocabulary.specs.Nodes.{BoundNode as Node, UnboundNode, recorded}
use Rattle.meaning.specs.Hosts.{Meaning}
use Rattle.model.specs.Making.{Plan, named, looked_up, check, head_known, head_counts, head_type, types_of, deepest}
use Rattle.model.specs.Making.{total_size, sized, bound, over_children, build, entered, schema_first, make}
use Rattle.model.specs.Rebuilding.{itself_or, rebuilt, with_children}
use Rattle.model.specs.Shapes.{Head, head}
use Rattle.model.specs.Stores.{Store, node_at}
use Rattle.model.specs.Unbound.{UnboundStore, unbound_at, rows, seen, against}
use Rattle.model.specs.UnboundMaking.{any_host, over_unbound, build_unbound, entered_unbound, make_unbound}
use Rattle.model.specs.UnboundMaking.{itself_or_new, rebuilt_unbound, unbound_with_children}
use Rattle.model.specs.Wanted.{New, new_function, new_bytes, new_head}
use Rattle.model.proofs.Growing.{padded_named, padded_eight}
use Rattle.arena.specs.LawsOfChildren.{TheFirstDecide, eight, EightStandForAny}

module _ (place : ℕ) (h : Head) (f : Function) (adds : List ℕ) (n : ℕ) (cs ds : List ℕ)
    (e : named cs n ≡ named ds n) where
  -- the plan over those children
  abbrev over : List ℕ → Plan
  over zs = record { place = place; head = h; function = f; adds = adds; children = zs; count = n }

  recorded_same : (t : DType) (d z : ℕ) → recorded f cs n t d z ≡ recorded f ds n t d z
  recorded_same t d z =
      ap (λ (ks : List ℕ). record {
        function = f;
        children = ks ++ drop (min n 8) (replicate 8 0);
        child_count = min n 8;
        dtype = t;
        depth = d;
        size = z;
      }) e

  sized_same : (s : Store) (xs : List Node) (t : DType) → sized (over cs) s xs t ≡ sized (over ds) s xs t
  sized_same s xs t =
      ap (λ (x : Node).
      check (leb (suc (deepest xs)) 256) (Binding (TooDeep place))
      (check (leb (suc (total_size xs)) 4096) (Binding (TooLarge place))
      (check (ltb (length s.nodes) s.records) (Memory (RecordsFull place))
      (check (leb (length s.text + length adds) s.bytes) (Memory (TextFull place)) (Ok x)))))
      (recorded_same t (suc (deepest xs)) (suc (total_size xs)))

  bound_same : (s : Store) (xs : List Node) (o : Option DType) → bound (over cs) s xs o ≡ bound (over ds) s xs o
  bound_same s xs None = refl
  bound_same s xs (Some t) = sized_same s xs t

  over_same : (m : Meaning) (s : Store) (r : Result (List Node) ℕ)
      → over_children m (over cs) s r ≡ over_children m (over ds) s r
  over_same m s (Err k) = refl
  over_same m s (Ok xs) =
      ap (λ (r : Result Node Refusal).
      check (head_known m h) (Binding (NoSuchCode place))
      (check (head_counts m h n) (Binding (WrongChildCount place)) r))
      (bound_same s xs (head_type m s.schemas h (types_of xs)))

  build_same : (m : Meaning) (s : Store) → build m (over cs) s ≡ build m (over ds) s
  unfolding build
  build_same m s =
      over_same m s (looked_up s (named cs n))
      ∙ ap (λ (ks : List ℕ). over_children m (over ds) s (looked_up s ks)) e

  unbound_same : (s : Store) (r : Result (List Node) ℕ) → over_unbound (over cs) s r ≡ over_unbound (over ds) s r
  unbound_same s (Err k) = refl
  unbound_same s (Ok xs) =
      ap (λ (r : Result Node Refusal). check (head_counts any_host h n) (Binding (WrongChildCount place)) r)
      (sized_same s xs (rows 0))

  build_unbound_same : (u : UnboundStore) → build_unbound (over cs) u ≡ build_unbound (over ds) u
  unfolding build_unbound
  build_unbound_same u =
      unbound_same (against 0 u) (looked_up (against 0 u) (named cs n))
      ∙ ap (λ (ks : List ℕ). over_unbound (over ds) (against 0 u) (looked_up (against 0 u) ks)) e

module _ (cs ds : List ℕ) (n : ℕ) (e : named cs n ≡ named ds n) where
  made_same : (m : Meaning) (w : New) (s : Store) → make m w cs n s ≡ make m w ds n s
  made_same m w s =
      ap (λ (r : Result Node Refusal). entered (new_bytes w) s (schema_first w r))
      (build_same 65535 (new_head w) (new_function s.text w) (new_bytes w) n cs ds e m s)

  rebuilt_same : (m : Meaning) (k : ℕ) (s : Store) → with_children m k cs n s ≡ with_children m k ds n s
  rebuilt_same m k s = go (node_at s k)
    where
      go : (o : Option Node) → rebuilt m k o cs n s ≡ rebuilt m k o ds n s
      go None = refl
      go (Some x) =
          ap (λ (r : Result Node Refusal). itself_or k x.function n s (entered [] s r))
          (build_same k (head s.text x) x.function [] n cs ds e m s)

  made_unbound_same : (w : New) (u : UnboundStore) → make_unbound w cs n u ≡ make_unbound w ds n u
  made_unbound_same w u =
      ap (λ (r : Result Node Refusal). entered_unbound (new_bytes w) u r)
      (build_unbound_same 65535 (new_head w) (new_function u.text w) (new_bytes w) n cs ds e u)

  rebuilt_unbound_same : (k : ℕ) (u : UnboundStore)
      → unbound_with_children k cs n u ≡ unbound_with_children k ds n u
  rebuilt_unbound_same k u = go (unbound_at u k)
    where
      go : (o : Option UnboundNode) → rebuilt_unbound k o cs n u ≡ rebuilt_unbound k o ds n u
      go None = refl
      go (Some x) =
          ap (λ (r : Result Node Refusal). itself_or_new k x.function n u (entered_unbound [] u r))
          (build_unbound_same k (head u.text (seen 0 x)) x.function [] n cs ds e u)

pub the_first_decide : TheFirstDecide
the_first_decide cs ds n e = record {
  made = made_same cs ds n e;
  rebuilt = rebuilt_same cs ds n e;
  made_unbound = made_unbound_same cs ds n e;
  rebuilt_unbound = rebuilt_unbound_same cs ds n e;
}

pub eight_stand_for_any : EightStandForAny
eight_stand_for_any cs =
    let enough : min (length cs) 8 ≤ length cs = omega arith in (
      padded_eight cs (length cs) enough,
      the_first_decide cs (eight cs) (length cs) (sym (padded_named cs (length cs) enough)),
    )
