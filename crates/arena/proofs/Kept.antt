-- What was there before stays in front while more is made, and is what is left when that is taken back.
use Rattle.std.proofs.Common.{◌≡◌, ℕ, ◌≤◌, true, List, [], ◌∷◌, reverse, length, take, Result, sym, refl, ap}
use Rattle.std.proofs.Common.{◌∙◌, subst, arith, length-append, length-take}
use Rattle.std.proofs.lemmas.List.{reverse-append, reverse-reverse, length-reverse, take-append-le, take_all}
use Rattle.vocabulary.specs.Nodes.{BoundNode as Node}
use Rattle.vocabulary.specs.declared.refusals.Refusal.{Refusal}
use Rattle.meaning.specs.Columns.{Schemas}
use Rattle.meaning.specs.Hosts.{Meaning}
use Rattle.model.specs.LawsOfMaking.{Grows}
use Rattle.model.specs.Making.{make}
use Rattle.model.specs.Rebuilding.{with_children}
use Rattle.model.specs.Steps.{makes, rebuilds}
use Rattle.model.specs.Stores.{Store}
use Rattle.model.specs.Wanted.{New}
use Rattle.model.proofs.Adding.{steps_only_add}
use Rattle.arena.specs.declared.memory.Memory.{Memory as Held}
use Rattle.arena.specs.Answered.{Answered}
use Rattle.arena.specs.Opened.{Opened, store}
use Rattle.arena.specs.Rooms.{Limited}
use Rattle.arena.specs.Standing.{all_stand}
use Rattle.arena.specs.Trials.{taken_back, Marked, TakenBack}
use Rattle.arena.proofs.SameStores.{same_store}

-- it holds after more was made
still_marked : (s later : Store) (nodes text : ℕ) → Grows s later → Marked s nodes text → Marked later nodes text
still_marked s later nodes text g m =
    let all = ap (λ (xs : List Node). reverse xs) g.nodes ∙ reverse-append g.newer s.nodes in
    let more = ap length g.nodes ∙ length-append g.newer s.nodes in
    let longer = ap length g.text ∙ length-append s.text g.more in
    let front : take nodes (reverse later.nodes) ≡ take nodes (reverse s.nodes) =
    ap (λ (ys : List Node). take nodes ys) all
    ∙ take-append-le nodes (reverse s.nodes) (reverse g.newer) (omega (arith, m.fewer, length-reverse s.nodes)) in
    record {
      fewer = omega (arith, m.fewer, more);
      shorter = omega (arith, m.shorter, longer);
      before = subst (λ (ys : List Node). all_stand text (reverse ys) ≡ true) (sym front) m.before;
    }

-- it holds after a node was made or rebuilt
pub marked_when_made : {H : Type 0} (m : Meaning) (old new : Opened H) (r : Result ℕ Refusal) (w : New) (cs : List ℕ)
    (n nodes text : ℕ)
    → Answered r old new (make m w cs n old.store) → Marked old.store nodes text → Marked new.store nodes text
marked_when_made m old new r w cs n nodes text made marked =
    still_marked old.store new.store nodes text
    (subst (λ (z : Store). Grows old.store z) (sym made.after) (steps_only_add m old.store (makes w cs n ∷ [])))
    marked

pub marked_when_rebuilt : {H : Type 0} (m : Meaning) (old new : Opened H) (r : Result ℕ Refusal) (k : ℕ) (cs : List ℕ)
    (n nodes text : ℕ)
    → Answered r old new (with_children m k cs n old.store) → Marked old.store nodes text
    → Marked new.store nodes text
marked_when_rebuilt m old new r k cs n nodes text anew marked =
    still_marked old.store new.store nodes text
    (subst (λ (z : Store). Grows old.store z) (sym anew.after) (steps_only_add m old.store (rebuilds k cs n ∷ [])))
    marked

-- it holds of marks at the end of all that there is
pub marked_at_end : (s : Store) (nodes text : ℕ) → all_stand (length s.text) s.nodes ≡ true
    → nodes ≡ length (reverse s.nodes) → text ≡ length s.text → Marked s nodes text
marked_at_end s nodes text stand few short =
    let xs = s.nodes in
    let whole : take nodes (reverse xs) ≡ reverse xs = take_all nodes (reverse xs) (omega (arith, few)) in
    record {
      fewer = omega (arith, few, length-reverse xs);
      shorter = omega (arith, short);
      before =
          ap (λ (ys : List Node). all_stand text (reverse ys)) whole
          ∙ ap (λ (ys : List Node). all_stand text ys) (reverse-reverse xs)
          ∙ ap (λ (k : ℕ). all_stand k xs) short ∙ stand;
    }

-- what is left of a store that has grown is the store that was
pub taken_back_grown : (s later : Store) → Grows s later
    → taken_back (length s.nodes) (length s.text) later ≡ s
taken_back_grown s later g =
    let old = s.nodes in
    same_store _ _ _ _ _ _ _ _ _ _ g.schemas
    (ap (λ (xs : List Node). reverse (take (length old) (reverse xs))) g.nodes
    ∙ ap (λ (xs : List Node). reverse (take (length old) xs)) (reverse-append g.newer old)
    ∙ ap (λ (xs : List Node). reverse xs)
    (take-append-le (length old) (reverse old) (reverse g.newer) (omega (arith, length-reverse old))
    ∙ take_all (length old) (reverse old) (omega (arith, length-reverse old)))
    ∙ reverse-reverse old)
    (ap (λ (xs : List ℕ). take (length s.text) xs) g.text
    ∙ take-append-le (length s.text) s.text g.more (omega arith)
    ∙ take_all (length s.text) s.text (omega arith))
    g.records g.bytes

-- the marks of what was cut back to them
cut_back : (s later : Store) (nodes text : ℕ) → Marked s nodes text → later ≡ taken_back nodes text s
    → Marked later nodes text
cut_back s later nodes text m e =
    subst (λ (z : Store). Marked z nodes text) (sym e)
    (let front = take nodes (reverse s.nodes) in
    let few = length-take nodes (reverse s.nodes) in
    let all = length-reverse s.nodes in
    let same : take nodes (reverse (reverse front)) ≡ front =
    ap (λ (ys : List Node). take nodes ys) (reverse-reverse front) ∙ take_all nodes front (omega (arith, few)) in
    record {
      fewer = omega (arith, few, all, m.fewer, length-reverse front);
      shorter = omega (arith, m.shorter, length-take text s.text);
      before = subst (λ (ys : List Node). all_stand text (reverse ys) ≡ true) (sym same) m.before;
    })

-- the parts of equal arenas
pub same_opened : {H : Type 0} (o p : Opened H) → o ≡ p
    → (o.store ≡ p.store) × (o.store.schemas ≡ p.store.schemas) × (o.host ≡ p.host)
same_opened {H} o p e =
    (ap (λ (z : Opened H). z.store) e, ap (λ (z : Opened H). z.store.schemas) e, ap (λ (z : Opened H). z.host) e)

module _ {H : Type 0} (host : H) (ss : Schemas) (h : Held) (o : Opened H) (nodes text : ℕ)
    (seen : ◌≡◌ {A = Opened H} (record { store = store ss h; host = host }) o)
    (m : Marked o.store nodes text) where
  here : Marked (store ss h) nodes text
  here = subst (λ (z : Opened H). Marked z.store nodes text) (sym seen) m

  -- what stands before the marks may be cut off behind them
  pub text_may_go : text ≤ length h.text.items
  text_may_go = here.shorter

  pub nodes_may_go : all_stand text (reverse (take nodes h.nodes.items)) ≡ true
  nodes_may_go =
      subst (λ (ys : List Node). all_stand text (reverse (take nodes ys)) ≡ true) (reverse-reverse h.nodes.items)
      here.before

  module _ (later : Held)
      (e : later.nodes ≡ record { items = take nodes h.nodes.items; limit = h.nodes.limit })
      (f : later.text ≡ record { items = take text h.text.items; limit = h.text.limit }) where
    -- a memory that was cut
    cut_store : store ss later ≡ taken_back nodes text (store ss h)
    cut_store =
        same_store ss ss _ _ _ _ _ _ _ _ refl
        (ap (λ (z : Limited Node). reverse z.items) e
        ∙ ap (λ (ys : List Node). reverse (take nodes ys)) (sym (reverse-reverse h.nodes.items)))
        (ap (λ (z : Limited ℕ). z.items) f) (ap (λ (z : Limited Node). z.limit) e)
        (ap (λ (z : Limited ℕ). z.limit) f)

    pub cut_is : TakenBack nodes text o (record { store = store ss later; host = host })
    cut_is =
        let (stored, schemas, kept) = same_opened _ o seen in
        record {
          after = cut_store ∙ ap (λ (z : Store). taken_back nodes text z) stored;
          schemas = schemas;
          host = kept;
        }

    -- the marks of what was cut back to them
    pub cut_marked : Marked (store ss later) nodes text
    cut_marked = cut_back (store ss h) (store ss later) nodes text here cut_store
