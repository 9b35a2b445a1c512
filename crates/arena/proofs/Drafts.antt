-- What is drafted check by check is what its plan comes to.
use Rattle.std.proofs.Common.{◌≡◌, ℕ, suc, ◌+◌, Bool, true, false, cond, ltb, leb, List, [], ◌∷◌, length}
use Rattle.std.proofs.Common.{Ok, Err, Result, sym, refl, ap, ◌∙◌, add-one, arith}
use Rattle.std.proofs.lemmas.List.{length-reverse}
use Rattle.vocabulary.specs.declared.nodes.Function.{Function}
use Rattle.vocabulary.specs.Nodes.{BoundNode as Node}
use Rattle.vocabulary.specs.declared.refusals.BindingRefusal.{BindingRefusal}
use Rattle.vocabulary.specs.declared.refusals.BindingRefusal.TheVariants.{TooDeep, TooLarge}
use Rattle.vocabulary.specs.declared.refusals.MemoryRefusal.{MemoryRefusal}
use Rattle.vocabulary.specs.declared.refusals.MemoryRefusal.TheVariants.{RecordsFull, TextFull}
use Rattle.vocabulary.specs.declared.refusals.Refusal.{Refusal}
use Rattle.vocabulary.specs.declared.refusals.Refusal.TheVariants.{Memory, Binding}
use Rattle.vocabulary.specs.declared.types.DType.{DType}
use Rattle.vocabulary.specs.declared.values.Span.{Span}
use Rattle.vocabulary.specs.Nodes.{recorded}
use Rattle.meaning.specs.Columns.{Schemas}
use Rattle.model.specs.Making.{Plan, named, looked_up, with_record, check, types_of, deepest, total_size}
use Rattle.model.specs.Stores.{Store, node_at}
use Rattle.model.specs.Wanted.{New, behind}
use Rattle.typing.specs.Typing.{Typing}
use Rattle.arena.specs.declared.bounds.Bound.{Bound}
use Rattle.arena.specs.declared.memory.Memory.{Memory as Held}
use Rattle.arena.specs.Building.{sized_as, typed_over, build_by}
use Rattle.arena.specs.Drafting.{then, in_memory, in_binding, bound_over, drafted, noted}
use Rattle.arena.specs.Opened.{store}
use Rattle.arena.specs.Placing.{room_in}
use Rattle.arena.specs.Surveying.{surveyed, no_kin, with_more, deeper, larger}
use Rattle.arena.proofs.Families.{more_depth, more_size, more_types}

-- the room that is left, by the numbers of records and bytes
abbrev room_by : ℕ → ℕ → ℕ → ℕ → ℕ → ℕ → Result Span MemoryRefusal
room_by place used records len more bytes =
    cond (ltb used records)
    (cond (leb (len + more) bytes) (Ok (record { start = len; len = more })) (Err (TextFull place)))
    (Err (RecordsFull place))

-- the same of the memory and of the store
pub nodes_length : (ss : Schemas) (h : Held) → length h.nodes.items ≡ length (store ss h).nodes
nodes_length ss h = sym (length-reverse h.nodes.items)

room_is : (ss : Schemas) (h : Held) (place more : ℕ)
    → room_in place h more
    ≡ room_by place (length (store ss h).nodes) h.nodes.limit (length (store ss h).text) more h.text.limit
room_is ss h place more =
    ap (λ (n : ℕ). room_by place n h.nodes.limit (length h.text.items) more h.text.limit) (nodes_length ss h)

-- what is looked up does not depend on the schemas
looked_same : (s r : Store) → s.nodes ≡ r.nodes → (ks : List ℕ) → looked_up s ks ≡ looked_up r ks
looked_same s r e [] = refl
looked_same s r e (k ∷ ks) = rw e (ap (with_record k (node_at r k)) (looked_same s r e ks))

-- the checks of a draft, by what they test
abbrev chain : ℕ → (Span → Function) → List ℕ → ℕ
    → Result DType BindingRefusal → ℕ → ℕ → Result Span MemoryRefusal → Result Node Refusal
chain place f cs n type d z room =
    then (in_binding type (λ t.
    in_binding (deeper place d) (λ e.
    in_binding (larger place z) (λ y.
    Ok (record { dtype = t; depth = e; size = y })))))
    (λ (b : Bound). in_memory room (λ q. Ok (noted (f q) cs n b)))

module _ (p : Plan) (f : Span → Function) (q : Span) (is : f q ≡ p.function) where
  -- depth, size and room
  ends : (t : DType) (d z : ℕ) (deep large free long : Bool)
      → then (in_binding (cond deep (Ok (d + 1)) (Err (TooDeep p.place))) (λ e.
      in_binding (cond large (Ok (z + 1)) (Err (TooLarge p.place))) (λ y.
      Ok (record { dtype = t; depth = e; size = y }))))
      (λ (b : Bound).
      in_memory (cond free (cond long (Ok q) (Err (TextFull p.place))) (Err (RecordsFull p.place))) (λ r.
      Ok (noted (f r) p.children p.count b)))
      ≡ check deep (Binding (TooDeep p.place))
      (check large (Binding (TooLarge p.place))
      (check free (Memory (RecordsFull p.place))
      (check long (Memory (TextFull p.place))
      (Ok (recorded p.function p.children p.count t (suc d) (suc z))))))
  ends t d z false large free long = refl
  ends t d z true false free long = refl
  ends t d z true true false long = refl
  ends t d z true true true false = refl
  ends t d z true true true true =
      ap (λ (g : Function). Ok (recorded g p.children p.count t (d + 1) (z + 1))) is
      ∙ ap (λ (e : ℕ). Ok (recorded p.function p.children p.count t e (z + 1))) (add-one d)
      ∙ ap (λ (y : ℕ). Ok (recorded p.function p.children p.count t (suc d) y)) (add-one z)

  -- all of them
  chained : (s : Store) (xs : List Node) (type : Result DType BindingRefusal)
      → chain p.place f p.children p.count type (deepest xs) (total_size xs)
      (cond (ltb (length s.nodes) s.records)
      (cond (leb (length s.text + length p.adds) s.bytes) (Ok q) (Err (TextFull p.place)))
      (Err (RecordsFull p.place)))
      ≡ sized_as p s xs type
  chained s xs (Err e) = refl
  chained s xs (Ok t) =
      ends t (deepest xs) (total_size xs) (ltb (deepest xs) 256) (ltb (total_size xs) 4096)
      (ltb (length s.nodes) s.records) (leb (length s.text + length p.adds) s.bytes)

-- what is drafted is what the plan comes to
pub draft_is : (ss : Schemas) (h : Held) (typing : Typing) (p : Plan) (w : New) (f : Span → Function)
    → f (behind (store ss h).text p.adds) ≡ p.function
    → drafted typing h p.place w f (length p.adds) p.children p.count
    ≡ build_by (typing p.place w p.count) p (store ss h)
unfolding build_by
draft_is ss h typing p w f function =
    ap (λ (r : Result (List Node) ℕ). then (then (surveyed no_kin r) (λ k. bound_over typing p.place w p.count k))
    (λ (b : Bound). in_memory (room_in p.place h (length p.adds)) (λ q. Ok (noted (f q) p.children p.count b))))
    (looked_same (store [] h) (store ss h) refl (named p.children p.count))
    ∙ go (looked_up (store ss h) (named p.children p.count)) refl
  where
    go : (r : Result (List Node) ℕ) → looked_up (store ss h) (named p.children p.count) ≡ r
        → then (then (surveyed no_kin r) (λ k. bound_over typing p.place w p.count k))
        (λ (b : Bound). in_memory (room_in p.place h (length p.adds)) (λ q. Ok (noted (f q) p.children p.count b)))
        ≡ typed_over (typing p.place w p.count) p (store ss h) r
    go (Err k) e = refl
    go (Ok xs) e =
        let s = store ss h in
        let place = p.place in
        let cs = p.children in
        let n = p.count in
        let kin = with_more no_kin xs in
        let d : kin.depth ≡ deepest xs = omega (arith, more_depth no_kin xs) in
        let z : kin.size ≡ total_size xs = omega (arith, more_size no_kin xs) in
        let room = room_is ss h place (length p.adds) in
        ap (λ (ts : List DType). chain place f cs n (typing place w n ts) kin.depth kin.size
        (room_in place h (length p.adds))) (more_types no_kin xs)
        ∙ ap (λ (y : ℕ). chain place f cs n (typing place w n (types_of xs)) y kin.size
        (room_in place h (length p.adds))) d
        ∙ ap (λ (y : ℕ). chain place f cs n (typing place w n (types_of xs)) (deepest xs) y
        (room_in place h (length p.adds))) z
        ∙ ap (λ (r : Result Span MemoryRefusal). chain place f cs n (typing place w n (types_of xs)) (deepest xs)
        (total_size xs) r) room
        ∙ chained p f (behind s.text p.adds) function s xs (typing place w n (types_of xs))
