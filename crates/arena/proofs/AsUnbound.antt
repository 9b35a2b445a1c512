-- Making and rebuilding by counts alone are those of unbound nodes in the model.
use Rattle.std.proofs.Common.{◌≡◌, ℕ, zero, suc, ◌+◌, Bool, true, false, cond, not, ◌&&◌, eqb, ltb, leb, List, []}
use Rattle.std.proofs.Common.{◌∷◌, map, length, Some, None, Ok, Err, Option, Result, sym, refl, ap, ◌∙◌}
use lib.ListN.{length-map}
use Rattle.std.proofs.lemmas.Simd.{map-map}
use Rattle.std.proofs.lemmas.Bool.{and_parts, and_from, eqb-true}
use Rattle.std.specs.Option.{option_map}
use Rattle.std.proofs.lemmas.Option.{same_Some}
use Rattle.vocabulary.specs.declared.nodes.Function.{Function}
use Rattle.vocabulary.specs.declared.nodes.Function.TheVariants.{Root, Literal, GetItem, Cast, Binary, Between, Host}
use Rattle.vocabulary.specs.Nodes.{BoundNode as Node}
use Rattle.vocabulary.specs.declared.refusals.BindingRefusal.TheVariants.{WrongChildCount}
use Rattle.vocabulary.specs.declared.refusals.Refusal.{Refusal}
use Rattle.vocabulary.specs.declared.refusals.Refusal.TheVariants.{Binding}
use Rattle.vocabulary.specs.declared.types.DType.{DType}
use Rattle.vocabulary.specs.declared.types.Kind.{Kind}
use Rattle.vocabulary.specs.declared.types.Kind.TheVariants as kind
use Rattle.vocabulary.specs.Nodes.{UnboundNode, untyped}
use Rattle.model.specs.Unbound.{UnboundStore, rows, seen, against}
use Rattle.meaning.proofs.CaseSplits.{none_some, false_true}
use Rattle.model.specs.BindingTrees.{plan_at}
use Rattle.model.specs.Making.{Plan, named, looked_up, check, sized, types_of, entered, head_counts, new_record}
use Rattle.model.specs.Making.{deepest, total_size}
use Rattle.model.specs.Rebuilding.{old_plan, itself_or}
use Rattle.model.specs.Stores.{Store, node_at, node_among}
use Rattle.model.specs.UnboundMaking.{any_host, over_unbound, build_unbound, entered_unbound, make_unbound}
use Rattle.model.specs.UnboundMaking.{itself_or_new, rebuilt_unbound, unbound_with_children}
use Rattle.model.specs.Wanted.{New, new_bytes, new_head}
use Rattle.model.proofs.Children.{err_ok, ok_same}
use Rattle.model.proofs.Plans.{checked}
use Rattle.typing.specs.Typing.{asked_counts, counted_only}
use Rattle.typing.proofs.Heads.{head_counts_is}
use Rattle.arena.specs.Building.{sized_as, typed_over, build_by, make_by, rebuilt_by, rebuild_by}
use Rattle.arena.specs.Loose.{is_filler, all_loose, loosened}
use Rattle.arena.specs.Rebuilding.{again}
use Rattle.arena.proofs.AsModelled.{again_head}
use Rattle.arena.proofs.SameStores.{same_store}

-- an answer and a store without its types
abbrev loosely : Result ℕ Refusal × Store → Result ℕ Refusal × UnboundStore
loosely z = (z.0, loosened z.1)

-- the store's records have the type of unbound nodes
abbrev pub Loose : Store → Type 0
Loose s = all_loose s.nodes ≡ true

-- a kind that stands for none is that of the rows of schema 0
filler_is : (k : Kind) (b : Bool) → is_filler k && not b ≡ true
    → ◌≡◌ {A = DType} (record { kind = k; nullable = b }) (rows 0)
filler_is kind.Bool b h = false_true h
filler_is kind.I64 b h = false_true h
filler_is kind.U64 b h = false_true h
filler_is kind.Utf8 b h = false_true h
filler_is (kind.Extension e) b h = false_true h
filler_is (kind.Row q) true h = false_true (and_parts (eqb q 0) false h).1
filler_is (kind.Row q) false h =
    ap (λ (n : ℕ). rows n) (eqb-true q 0 (and_parts (eqb q 0) true h).0)

-- a record with the type of unbound nodes
abbrev as_unbound : Node → Node
as_unbound x = seen 0 (untyped x)

-- a record that has it already
unbound_is : (x : Node) → is_filler x.dtype.kind && not x.dtype.nullable ≡ true → as_unbound x ≡ x
unbound_is x h =
    ap (λ (t : DType). record {
      function = x.function;
      children = x.children;
      child_count = x.child_count;
      dtype = t;
      depth = x.depth;
      size = x.size;
    }) (sym (filler_is x.dtype.kind x.dtype.nullable h))

all_unbound : (xs : List Node) → all_loose xs ≡ true → map as_unbound xs ≡ xs
all_unbound [] h = refl
all_unbound (x ∷ xs) h =
    let (a, b) = and_parts (is_filler x.dtype.kind && not x.dtype.nullable) (all_loose xs) h in
    let first = unbound_is x a in
    let rest = all_unbound xs b in
    cc

counts_passed : (p : Plan) (s : Store) (xs : List Node) (b : Bool)
    → sized_as p s xs (cond b (Ok (rows 0)) (Err (WrongChildCount p.place)))
    ≡ check b (Binding (WrongChildCount p.place)) (sized p s xs (rows 0))
counts_passed p s xs true = refl
counts_passed p s xs false = refl

-- a plan of what is asked for comes to the same record
built_loose : (w : New) (p : Plan) (s : Store) → new_head w ≡ p.head
    → build_by (counted_only p.place w p.count) p s
    ≡ over_unbound p s (looked_up s (named p.children p.count))
unfolding build_by
built_loose w p s head = go (looked_up s (named p.children p.count))
  where
    go : (r : Result (List Node) ℕ)
        → typed_over (counted_only p.place w p.count) p s r ≡ over_unbound p s r
    go (Err k) = refl
    go (Ok xs) =
        ap (λ (b : Bool). sized_as p s xs (cond b (Ok (rows 0)) (Err (WrongChildCount p.place))))
        (head_counts_is any_host w p.count)
        ∙ ap (λ g. sized_as p s xs (cond (head_counts any_host g p.count) (Ok (rows 0))
        (Err (WrongChildCount p.place)))) head
        ∙ counts_passed p s xs (head_counts any_host p.head p.count)

-- read against a schema and without its types again
against_loose : (s : Store) → s.schemas ≡ [] → Loose s → against 0 (loosened s) ≡ s
against_loose s none e =
    same_store _ _ _ _ _ _ _ _ _ _ (sym none) (map-map (seen 0) untyped s.nodes ∙ all_unbound s.nodes e) refl refl refl

entered_loose : (bs : List ℕ) (s : Store) (r : Result Node Refusal)
    → entered_unbound bs (loosened s) r ≡ loosely (entered bs s r)
entered_loose bs s (Err e) = refl
entered_loose bs s (Ok x) =
    ap (λ (n : ℕ). (Ok n, loosened (entered bs s (Ok x)).1)) (length-map s.nodes untyped)

-- making
pub makes_loose : (w : New) (cs : List ℕ) (n : ℕ) (s : Store) → s.schemas ≡ [] → Loose s
    → loosely (make_by counted_only 65535 w cs n s) ≡ make_unbound w cs n (loosened s)
unfolding build_unbound
makes_loose w cs n s none e =
    sym (entered_loose (new_bytes w) s (build_by (counted_only 65535 w n) (plan_at 65535 w cs n s) s))
    ∙ ap (entered_unbound (new_bytes w) (loosened s))
    (built_loose w (plan_at 65535 w cs n s) s refl
    ∙ ap (λ (z : Store). over_unbound (plan_at 65535 w cs n z) z (looked_up z (named cs n)))
    (sym (against_loose s none e)))

-- the records that are made have the type of unbound nodes too
pub stays_loose : (place : ℕ) (w : New) (p : Plan) (bs : List ℕ) (s : Store) → Loose s
    → Loose (entered bs s (build_by (counted_only place w p.count) p s)).1
unfolding build_by
stays_loose place w p bs s e =
    over (looked_up s (named p.children p.count))
  where
    passed : (r : Result Node Refusal) → ((x : Node) → r ≡ Ok x → x.dtype ≡ rows 0) → Loose (entered bs s r).1
    passed (Err r) h = e
    passed (Ok x) h =
        and_from (is_filler x.dtype.kind && not x.dtype.nullable) (all_loose s.nodes)
        (ap (λ (t : DType). is_filler t.kind && not t.nullable) (h x refl)) e

    typed : (xs : List Node) (b : Bool) (x : Node)
        → sized_as p s xs (cond b (Ok (rows 0)) (Err (WrongChildCount place))) ≡ Ok x → x.dtype ≡ rows 0
    typed xs false x h = err_ok (Binding (WrongChildCount place)) x h
    typed xs true x h =
        let (deep, h2) = checked (leb (suc (deepest xs)) 256) _ _ x h in
        let (large, h3) = checked (leb (suc (total_size xs)) 4096) _ _ x h2 in
        let (free, h4) = checked (ltb (length s.nodes) s.records) _ _ x h3 in
        let (long, h5) = checked (leb (length s.text + length p.adds) s.bytes) _ _ x h4 in
        let same : x ≡ new_record p (rows 0) xs = sym (ok_same h5) in
        ap (λ (y : Node). y.dtype) same

    over : (r : Result (List Node) ℕ)
        → Loose (entered bs s (typed_over (counted_only place w p.count) p s r)).1
    over (Err k) = e
    over (Ok xs) =
        passed (sized_as p s xs (counted_only place w p.count (types_of xs)))
        (typed xs (asked_counts any_host w p.count))

-- the record of a number without its type
pub among_untyped : (xs : List Node) (k : ℕ) → node_among (map untyped xs) k ≡ option_map untyped (node_among xs k)
unfolding node_among
among_untyped [] k = refl
among_untyped (x ∷ xs) k =
    ap (λ (n : ℕ). cond (eqb k n) (Some (untyped x)) (node_among (map untyped xs) k)) (length-map xs untyped)
    ∙ go (among_untyped xs k) (eqb k (length xs))
  where
    go : node_among (map untyped xs) k ≡ option_map untyped (node_among xs k)
        → (b : Bool)
        → cond b (Some (untyped x)) (node_among (map untyped xs) k)
        ≡ option_map untyped (cond b (Some x) (node_among xs k))
    go f true = refl
    go f false = f

-- a record of a number has the type of unbound nodes
found_loose : (xs : List Node) (k : ℕ) (x : Node) → all_loose xs ≡ true → node_among xs k ≡ Some x → as_unbound x ≡ x
unfolding node_among
found_loose [] k x h e = none_some x e
found_loose (y ∷ ys) k x h e = go (found_loose ys k x parts.1) (eqb k (length ys)) e
  where
    parts : (is_filler y.dtype.kind && not y.dtype.nullable ≡ true) × (all_loose ys ≡ true)
    parts = and_parts (is_filler y.dtype.kind && not y.dtype.nullable) (all_loose ys) h

    go : (node_among ys k ≡ Some x → as_unbound x ≡ x)
        → (b : Bool) → cond b (Some y) (node_among ys k) ≡ Some x → as_unbound x ≡ x
    go f true i = ap as_unbound (sym (same_Some _ _ i)) ∙ unbound_is y parts.0 ∙ same_Some _ _ i
    go f false i = f i

itself_loose : (k : ℕ) (f : Function) (n : ℕ) (s : Store) (anew : Result ℕ Refusal × Store)
    → loosely (itself_or k f n s anew) ≡ itself_or_new k f n (loosened s) (loosely anew)
itself_loose k Root zero s anew = refl
itself_loose k Root (suc n) s anew = refl
itself_loose k (Literal t v) n s anew = refl
itself_loose k (GetItem name) n s anew = refl
itself_loose k (Cast t) n s anew = refl
itself_loose k (Binary o) n s anew = refl
itself_loose k (Between o) n s anew = refl
itself_loose k (Host c) n s anew = refl

-- rebuilding
pub rebuilds_loose : (k : ℕ) (cs : List ℕ) (n : ℕ) (s : Store) → s.schemas ≡ [] → Loose s
    → loosely (rebuild_by counted_only k cs n s) ≡ unbound_with_children k cs n (loosened s)
unfolding build_unbound
rebuilds_loose k cs n s none e =
    go (node_at s k) refl
    ∙ ap (λ (o : Option UnboundNode). rebuilt_unbound k o cs n (loosened s)) (sym (among_untyped s.nodes k))
  where
    go : (o : Option Node) → node_at s k ≡ o
        → loosely (rebuilt_by counted_only k o cs n s) ≡ rebuilt_unbound k (option_map untyped o) cs n (loosened s)
    go None found = refl
    go (Some x) found =
        let w = again s.text x.dtype x.function in
        let r = build_by (counted_only k w n) (old_plan k x cs n s) s in
        itself_loose k x.function n s (entered [] s r)
        ∙ ap (itself_or_new k x.function n (loosened s))
        (sym (entered_loose [] s r)
        ∙ ap (entered_unbound [] (loosened s))
        (built_loose w (old_plan k x cs n s) s (again_head s.text x.dtype x.function)
        ∙ ap (λ (y : Node). over_unbound (old_plan k y cs n s) s (looked_up s (named cs n)))
        (sym (found_loose s.nodes k x e found))
        ∙ ap (λ (z : Store). over_unbound (old_plan k (as_unbound x) cs n z) z (looked_up z (named cs n)))
        (sym (against_loose s none e))))

itself_either : (P : Store → Type 0) (k : ℕ) (f : Function) (n : ℕ) (s : Store) (anew : Result ℕ Refusal × Store)
    → P s → P anew.1 → P (itself_or k f n s anew).1
itself_either P k Root zero s anew a b = a
itself_either P k Root (suc n) s anew a b = b
itself_either P k (Literal t v) n s anew a b = b
itself_either P k (GetItem name) n s anew a b = b
itself_either P k (Cast t) n s anew a b = b
itself_either P k (Binary o) n s anew a b = b
itself_either P k (Between o) n s anew a b = b
itself_either P k (Host c) n s anew a b = b

-- the records that are rebuilt have the type of unbound nodes too
pub rebuild_loose : (k : ℕ) (cs : List ℕ) (n : ℕ) (s : Store) → Loose s → Loose (rebuild_by counted_only k cs n s).1
rebuild_loose k cs n s e = go (node_at s k)
  where
    go : (o : Option Node) → Loose (rebuilt_by counted_only k o cs n s).1
    go None = e
    go (Some x) =
        let w = again s.text x.dtype x.function in
        itself_either Loose k x.function n s
        (entered [] s (build_by (counted_only k w n) (old_plan k x cs n s) s)) e
        (stays_loose k w (old_plan k x cs n s) [] s e)
