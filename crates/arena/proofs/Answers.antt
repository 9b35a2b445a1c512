-- What the makers of an arena answer, by what its memory does.
use Rattle.std.proofs.Common.{◌≡◌, ℕ, List, [], Ok, Result, sym, refl, ap, ◌∙◌, subst}
use Rattle.vocabulary.specs.declared.refusals.Refusal.{Refusal}
use Rattle.meaning.specs.Columns.{Schemas}
use Rattle.meaning.specs.Hosts.{Meaning}
use Rattle.model.specs.BindingTrees.{plan_at}
use Rattle.model.specs.Making.{make}
use Rattle.model.specs.Rebuilding.{with_children}
use Rattle.model.specs.Stores.{Store}
use Rattle.model.specs.Unbound.{UnboundStore}
use Rattle.model.specs.UnboundMaking.{make_unbound, unbound_with_children}
use Rattle.model.specs.Wanted.{New, new_bytes}
use Rattle.typing.specs.Typing.{bound_typing, counted_only}
use Rattle.arena.specs.declared.memory.Memory.{Memory as Held}
use Rattle.arena.specs.Answered.{Answered, Gives, Made}
use Rattle.arena.specs.Bound.{schema_there}
use Rattle.arena.specs.Building.{make_by, rebuild_by}
use Rattle.arena.specs.Loose.{loosened}
use Rattle.arena.specs.Opened.{Opened, store}
use Rattle.arena.proofs.AsModelled.{makes_opened, rebuilds_opened}
use Rattle.arena.proofs.AsUnbound.{Loose, makes_loose, rebuilds_loose, stays_loose, rebuild_loose}
use Rattle.arena.proofs.Kept.{same_opened}

pub made : {H : Type 0} (meaning : H → Meaning) (host : H) (ss : Schemas) (h later : Held) (r : Result ℕ Refusal)
    (old new : Opened H) (w : New) (cs : List ℕ) (n : ℕ)
    → Gives r h later (make_by (bound_typing (meaning host) ss) 65535 w cs n)
    → ◌≡◌ {A = Opened H} (record { store = store ss h; host = host }) old
    → Ok tt ≡ schema_there w
    → ◌≡◌ {A = Opened H} (record { store = store ss later; host = host }) new
    → Answered r old new (make (meaning old.host) w cs n old.store)
made {H} meaning host ss h later r old new w cs n gives seen there next =
    let o : Opened H = record { store = store ss h; host = host } in
    let same = makes_opened meaning o old w cs n seen there in
    let (stored, schemas, kept) = same_opened o old seen in
    let (now, after, host_now) = same_opened _ _ next in
    record {
      answers = gives.answers ss ∙ ap (λ (z : Result ℕ Refusal × Store). z.0) same;
      after = sym now ∙ gives.after ss ∙ ap (λ (z : Result ℕ Refusal × Store). z.1) same;
      schemas = sym after ∙ schemas;
      host = sym host_now ∙ kept;
    }

pub rebuilt : {H : Type 0} (meaning : H → Meaning) (host : H) (ss : Schemas) (h later : Held) (r : Result ℕ Refusal)
    (old new : Opened H) (k : ℕ) (cs : List ℕ) (n : ℕ)
    → Gives r h later (rebuild_by (bound_typing (meaning host) ss) k cs n)
    → ◌≡◌ {A = Opened H} (record { store = store ss h; host = host }) old
    → ◌≡◌ {A = Opened H} (record { store = store ss later; host = host }) new
    → Answered r old new (with_children (meaning old.host) k cs n old.store)
rebuilt {H} meaning host ss h later r old new k cs n gives seen next =
    let o : Opened H = record { store = store ss h; host = host } in
    let same = rebuilds_opened meaning o old k cs n seen in
    let (stored, schemas, kept) = same_opened o old seen in
    let (now, after, host_now) = same_opened _ _ next in
    record {
      answers = gives.answers ss ∙ ap (λ (z : Result ℕ Refusal × Store). z.0) same;
      after = sym now ∙ gives.after ss ∙ ap (λ (z : Result ℕ Refusal × Store). z.1) same;
      schemas = sym after ∙ schemas;
      host = sym host_now ∙ kept;
    }

-- the same of unbound nodes, whose records keep the type that stands for none
pub made_unbound : (h later : Held) (r : Result ℕ Refusal) (w : New) (cs : List ℕ) (n : ℕ)
    → Gives r h later (make_by counted_only 65535 w cs n) → Loose (store [] h)
    → Made r (loosened (store [] later)) (make_unbound w cs n (loosened (store [] h)))
made_unbound h later r w cs n gives loose =
    let same = makes_loose w cs n (store [] h) refl loose in
    record {
      answers = gives.answers [] ∙ ap (λ (z : Result ℕ Refusal × UnboundStore). z.0) same;
      after = ap loosened (gives.after []) ∙ ap (λ (z : Result ℕ Refusal × UnboundStore). z.1) same;
    }

pub rebuilt_unbound : (h later : Held) (r : Result ℕ Refusal) (k : ℕ) (cs : List ℕ) (n : ℕ)
    → Gives r h later (rebuild_by counted_only k cs n)
    → Loose (store [] h)
    → Made r (loosened (store [] later)) (unbound_with_children k cs n (loosened (store [] h)))
rebuilt_unbound h later r k cs n gives loose =
    let same = rebuilds_loose k cs n (store [] h) refl loose in
    record {
      answers = gives.answers [] ∙ ap (λ (z : Result ℕ Refusal × UnboundStore). z.0) same;
      after = ap loosened (gives.after []) ∙ ap (λ (z : Result ℕ Refusal × UnboundStore). z.1) same;
    }

pub made_loose : (h later : Held) (r : Result ℕ Refusal) (w : New) (cs : List ℕ) (n : ℕ)
    → Gives r h later (make_by counted_only 65535 w cs n) → Loose (store [] h) → Loose (store [] later)
made_loose h later r w cs n gives loose =
    let s = store [] h in
    subst Loose (sym (gives.after [])) (stays_loose 65535 w (plan_at 65535 w cs n s) (new_bytes w) s loose)

pub rebuilt_loose : (h later : Held) (r : Result ℕ Refusal) (k : ℕ) (cs : List ℕ) (n : ℕ)
    → Gives r h later (rebuild_by counted_only k cs n) → Loose (store [] h) → Loose (store [] later)
rebuilt_loose h later r k cs n gives loose =
    subst Loose (sym (gives.after [])) (rebuild_loose k cs n (store [] h) loose)
