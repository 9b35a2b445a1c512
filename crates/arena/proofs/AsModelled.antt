-- Making and rebuilding by the typist of bound nodes are those of the model.
use Rattle.std.proofs.Common.{◌≡◌, ℕ, Bool, true, false, cond, ltb, leb, List, [], Some, None, Ok, Err, Option}
use Rattle.std.proofs.Common.{Result, sym, refl, ap, ◌∙◌, arith}
use Rattle.std.proofs.lemmas.Bool.{ltb-true, le-leb}
use Rattle.std.specs.Option.{ok_or}
use Rattle.vocabulary.specs.declared.nodes.Function.{Function}
use Rattle.vocabulary.specs.declared.nodes.Function.TheVariants.{Root, Literal, GetItem, Cast, Binary, Between, Host}
use Rattle.vocabulary.specs.Nodes.{BoundNode as Node}
use Rattle.vocabulary.specs.declared.refusals.BindingRefusal.{BindingRefusal}
use Rattle.vocabulary.specs.declared.refusals.BindingRefusal.TheVariants.{NoSuchCode, WrongChildCount, DoesNotBind}
use Rattle.vocabulary.specs.declared.refusals.MemoryRefusal.{MemoryRefusal}
use Rattle.vocabulary.specs.declared.refusals.MemoryRefusal.TheVariants.{NoSuchSchema}
use Rattle.vocabulary.specs.declared.refusals.Refusal.{Refusal}
use Rattle.vocabulary.specs.declared.refusals.Refusal.TheVariants.{Memory, Binding}
use Rattle.vocabulary.specs.declared.types.DType.{DType}
use Rattle.meaning.specs.Hosts.{Meaning}
use Rattle.model.specs.BindingTrees.{plan_at, make_at}
use Rattle.model.specs.Making.{Plan, named, looked_up, check, types_of, bound, over_children, build, entered, make}
use Rattle.model.specs.Making.{head_known, head_counts, head_type}
use Rattle.model.specs.Rebuilding.{old_plan, itself_or, rebuilt, with_children}
use Rattle.model.specs.Shapes.{Head, head_of}
use Rattle.model.specs.Stores.{Store, node_at}
use Rattle.model.specs.Wanted.{New, root, literal, get_item, cast, binary, between, host, new_bytes, new_head}
use Rattle.model.proofs.Children.{err_ok}
use Rattle.typing.specs.Typing.{asked_counts, asked_type, bound_typing}
use Rattle.typing.proofs.Heads.{head_known_is, head_counts_is, head_type_is}
use Rattle.arena.specs.Bound.{schema_there}
use Rattle.arena.specs.Building.{sized_as, typed_over, build_by, make_by, rebuilt_by, rebuild_by}
use Rattle.arena.specs.Opened.{Opened}
use Rattle.arena.specs.Rebuilding.{again}

-- codes, counts and types, by what they test
abbrev typed_by : ℕ → Bool → Bool → Option DType → Result DType BindingRefusal
typed_by place known counts o =
    cond known (cond counts (ok_or o (DoesNotBind place)) (Err (WrongChildCount place))) (Err (NoSuchCode place))

passed : (p : Plan) (s : Store) (xs : List Node) (known counts : Bool) (o : Option DType)
    → sized_as p s xs (typed_by p.place known counts o)
    ≡ check known (Binding (NoSuchCode p.place))
    (check counts (Binding (WrongChildCount p.place)) (bound p s xs o))
passed p s xs false counts o = refl
passed p s xs true false o = refl
passed p s xs true true None = refl
passed p s xs true true (Some t) = refl

-- a plan of what is asked for comes to the same record
pub built_bound : (m : Meaning) (w : New) (p : Plan) (s : Store) → new_head w ≡ p.head
    → build_by (bound_typing m s.schemas p.place w p.count) p s ≡ build m p s
unfolding build_by build
built_bound m w p s head = go (looked_up s (named p.children p.count))
  where
    go : (r : Result (List Node) ℕ)
        → typed_over (bound_typing m s.schemas p.place w p.count) p s r ≡ over_children m p s r
    go (Err k) = refl
    go (Ok xs) =
        let place = p.place in
        let n = p.count in
        let known = head_known_is m w ∙ ap (head_known m) head in
        let counts = head_counts_is m w n ∙ ap (λ (g : Head). head_counts m g n) head in
        let type =
        head_type_is m s.schemas w (types_of xs)
        ∙ ap (λ (g : Head). head_type m s.schemas g (types_of xs)) head
        in
        ap (λ (b : Bool). sized_as p s xs (typed_by place b (asked_counts m w n)
        (asked_type m s.schemas w (types_of xs)))) known
        ∙ ap (λ (b : Bool). sized_as p s xs (typed_by place (head_known m p.head) b
        (asked_type m s.schemas w (types_of xs)))) counts
        ∙ ap (λ (o : Option DType). sized_as p s xs (typed_by place (head_known m p.head)
        (head_counts m p.head n) o)) type
        ∙ passed p s xs (head_known m p.head) (head_counts m p.head n)
        (head_type m s.schemas p.head (types_of xs))

-- making
pub makes_bound : (m : Meaning) (place : ℕ) (w : New) (cs : List ℕ) (n : ℕ) (s : Store)
    → make_by (bound_typing m s.schemas) place w cs n s ≡ make_at m place w cs n s
makes_bound m place w cs n s =
    ap (λ (r : Result Node Refusal). entered (new_bytes w) s r) (built_bound m w (plan_at place w cs n s) s refl)

-- what a record was asked for computes what the record does
pub again_head : (all : List ℕ) (t : DType) (f : Function) → new_head (again all t f) ≡ head_of all t f
again_head all t Root = refl
again_head all t (Literal u v) = refl
again_head all t (GetItem name) = refl
again_head all t (Cast u) = refl
again_head all t (Binary o) = refl
again_head all t (Between o) = refl
again_head all t (Host c) = refl

-- rebuilding
pub rebuilds_bound : (m : Meaning) (k : ℕ) (cs : List ℕ) (n : ℕ) (s : Store)
    → rebuild_by (bound_typing m s.schemas) k cs n s ≡ with_children m k cs n s
rebuilds_bound m k cs n s = go (node_at s k)
  where
    go : (o : Option Node) → rebuilt_by (bound_typing m s.schemas) k o cs n s ≡ rebuilt m k o cs n s
    go None = refl
    go (Some x) =
        ap (λ (r : Result Node Refusal). itself_or k x.function n s (entered [] s r))
        (built_bound m (again s.text x.dtype x.function) (old_plan k x cs n s) s
        (again_head s.text x.dtype x.function))

-- making a node whose schema is there
pub makes_new : (m : Meaning) (w : New) (cs : List ℕ) (n : ℕ) (s : Store) → Ok tt ≡ schema_there w
    → make_by (bound_typing m s.schemas) 65535 w cs n s ≡ make m w cs n s
makes_new m w cs n s there = makes_bound m 65535 w cs n s ∙ first w there
  where
    root_first : (q : ℕ) (b : Bool) → ltb q 8 ≡ b
        → ◌≡◌ {A = Result (Unit {0}) MemoryRefusal} (Ok tt) (cond b (Ok tt) (Err (NoSuchSchema q)))
        → leb q 7 ≡ true
    root_first q true e h = le-leb q 7 (omega (arith, ltb-true q 8 e))
    root_first q false e h = err_ok (NoSuchSchema q) tt (sym h)

    first : (v : New) → Ok tt ≡ schema_there v → make_at m 65535 v cs n s ≡ make m v cs n s
    first (root q) h =
        ap (λ (b : Bool).
        entered [] s (cond b (build m (plan_at 65535 (root q) cs n s) s) (Err (Memory (NoSuchSchema q)))))
        (sym (root_first q (ltb q 8) refl h))
    first (literal t v) h = refl
    first (get_item name) h = refl
    first (cast t) h = refl
    first (binary o) h = refl
    first (between o) h = refl
    first (host c) h = refl

-- the same of an arena that is seen as a value
pub makes_opened : {H : Type 0} (meaning : H → Meaning) (o p : Opened H) (w : New) (cs : List ℕ) (n : ℕ) → o ≡ p
    → Ok tt ≡ schema_there w
    → make_by (bound_typing (meaning o.host) o.store.schemas) 65535 w cs n o.store
    ≡ make (meaning p.host) w cs n p.store
makes_opened {H} meaning o p w cs n e there =
    makes_new (meaning o.host) w cs n o.store there
    ∙ ap (λ (z : Opened H). make (meaning z.host) w cs n z.store) e

pub rebuilds_opened : {H : Type 0} (meaning : H → Meaning) (o p : Opened H) (k : ℕ) (cs : List ℕ) (n : ℕ) → o ≡ p
    → rebuild_by (bound_typing (meaning o.host) o.store.schemas) k cs n o.store
    ≡ with_children (meaning p.host) k cs n p.store
rebuilds_opened {H} meaning o p k cs n e =
    rebuilds_bound (meaning o.host) k cs n o.store
    ∙ ap (λ (z : Opened H). with_children (meaning z.host) k cs n z.store) e
