-- Making and rebuilding are refused exactly for their causes.
use Rattle.std.proofs.Common.{◌≡◌, ℕ, zero, suc, ◌≤◌, min, leb, List, [], length, take, Some, None, Ok, Err, Option}
use Rattle.std.proofs.Common.{Result, sym, refl, ap, ◌∙◌, subst, inl, inr, arith}
use Rattle.std.proofs.lemmas.Bool.{leb-true, leb-false, le-leb, lt-leb, cond-true, cond-false, cases_lt}
use Rattle.vocabulary.specs.declared.nodes.Function.{Function}
use Rattle.vocabulary.specs.declared.nodes.Function.TheVariants.{Root, Literal, GetItem, Cast, Binary, Between, Host}
use Rattle.vocabulary.specs.Nodes.{BoundNode as Node}
use Rattle.vocabulary.specs.declared.refusals.Refusal.{Refusal}
use Rattle.meaning.specs.Hosts.{Meaning}
use Rattle.meaning.proofs.CaseSplits.{none_some}
use Rattle.model.specs.Stores.{Store, node_at}
use Rattle.model.specs.Shapes.{tree, trees}
use Rattle.model.specs.Wanted.{New, root, literal, get_item, cast, binary, between, host, new_bytes}
use Rattle.model.specs.Wanted.{new_head, new_tree}
use Rattle.model.specs.Making.{build, entered, schema_first, new_plan}
use Rattle.model.specs.Rebuilding.{old_plan, itself_or, rebuilt, with_children}
use Rattle.model.specs.Soundness.{Sound}
use Rattle.model.specs.LawsOfMaking.{with_operands}
use Rattle.model.specs.LawsOfRefusing.{Refused, SchemaThere, RefusedNew, no_schema, RefusedOld, no_such}
use Rattle.model.specs.LawsOfRefusing.{MakingRefusesExactly, RebuildingRefusesExactly}
use Rattle.model.proofs.Numbers.{node_there, node_past}
use Rattle.model.proofs.Children.{err_ok}
use Rattle.model.proofs.Granting.{asked_tree}
use Rattle.model.proofs.Regranting.{other_tree}
use Rattle.model.proofs.Missing.{err_same, either}
use Rattle.model.proofs.Refusing.{has_cause, is_refused}

-- the answer is refused where the record is
entered_refused : (bs : List ℕ) (s : Store) (a : Result Node Refusal) (r : Refusal) → (entered bs s a).0 ≡ Err r
    → a ≡ Err r
entered_refused bs s (Ok x) r e = err_ok r _ (sym e)
entered_refused bs s (Err q) r e = ap Err (err_same e)

schema_passes : (w : New) (a : Result Node Refusal) → SchemaThere w → schema_first w a ≡ a
schema_passes (root q) a h = cond-true (leb q 7) a _ (le-leb q 7 h)
schema_passes (literal t v) a h = refl
schema_passes (get_item name) a h = refl
schema_passes (cast t) a h = refl
schema_passes (binary o) a h = refl
schema_passes (between o) a h = refl
schema_passes (host c) a h = refl

module _ (m : Meaning) (s : Store) (sound : Sound m s) (cs : List ℕ) (n : ℕ) (enough : min n 8 ≤ length cs) where
  planned : (w : New) (r : Refusal) → build m (new_plan w cs n s) s ≡ Err r
      → Refused m s 65535 (new_head w) (new_bytes w) cs n (new_tree (tree s) cs n w) r
  planned w r h =
      has_cause m s sound (new_plan w cs n s) enough (new_tree (tree s) cs n w)
      (asked_tree m (tree s) cs n enough w) r h

  schema_refused : (w : New) (r : Refusal) → schema_first w (build m (new_plan w cs n s) s) ≡ Err r
      → RefusedNew m s w cs n r
  schema_refused (root q) r h =
      elim (either (leb q 7) _ _ r h) [
        | inl v ↦ subst (RefusedNew m s (root q) cs n) v.1 (no_schema q refl (leb-false q 7 v.0))
        | inr v ↦ RefusedNew.of_the_tree (leb-true q 7 v.0) (planned (root q) r v.1)
      ]
  schema_refused (literal t v) r h = RefusedNew.of_the_tree tt (planned (literal t v) r h)
  schema_refused (get_item name) r h = RefusedNew.of_the_tree tt (planned (get_item name) r h)
  schema_refused (cast t) r h = RefusedNew.of_the_tree tt (planned (cast t) r h)
  schema_refused (binary o) r h = RefusedNew.of_the_tree tt (planned (binary o) r h)
  schema_refused (between o) r h = RefusedNew.of_the_tree tt (planned (between o) r h)
  schema_refused (host c) r h = RefusedNew.of_the_tree tt (planned (host c) r h)

  new_refused : (w : New) (r : Refusal) → RefusedNew m s w cs n r
      → schema_first w (build m (new_plan w cs n s) s) ≡ Err r
  new_refused w r (no_schema q e h) =
      ap (λ (z : New). schema_first z (build m (new_plan w cs n s) s)) e
      ∙ cond-false (leb q 7) _ _ (lt-leb q 7 h)
  new_refused w r (RefusedNew.of_the_tree h c) =
      schema_passes w _ h
      ∙ is_refused m s sound (new_plan w cs n s) enough (new_tree (tree s) cs n w)
      (asked_tree m (tree s) cs n enough w) r c

pub making_refuses_exactly : MakingRefusesExactly
making_refuses_exactly m s sound w cs n enough r = (
  λ h. schema_refused m s sound cs n enough w r (entered_refused (new_bytes w) s _ r h),
  λ c. ap (λ (a : Result Node Refusal). (entered (new_bytes w) s a).0) (new_refused m s sound cs n enough w r c),
)

-- a node is itself only where it is a Root over no children
abbrev NotItself : Function → ℕ → Type 0
NotItself f n = f ≡ Root → n ≡ 0 → ⊥

is_anew : (k : ℕ) (f : Function) (n : ℕ) (s : Store) (a : Result ℕ Refusal × Store) → NotItself f n
    → itself_or k f n s a ≡ a
is_anew k Root zero s a h = absurd (h refl refl)
is_anew k Root (suc n) s a h = refl
is_anew k (Literal t v) n s a h = refl
is_anew k (GetItem name) n s a h = refl
is_anew k (Cast t) n s a h = refl
is_anew k (Binary o) n s a h = refl
is_anew k (Between o) n s a h = refl
is_anew k (Host c) n s a h = refl

anew_refused : (k : ℕ) (f : Function) (n : ℕ) (s : Store) (a : Result ℕ Refusal × Store) (r : Refusal)
    → (itself_or k f n s a).0 ≡ Err r → NotItself f n × (a.0 ≡ Err r)
anew_refused k Root zero s a r h = err_ok r k (sym h)
anew_refused k Root (suc n) s a r h = (λ e z. omega arith, h)
anew_refused k (Literal t v) n s a r h = (λ e z. let q : ◌≡◌ {A = ℕ} 0 1 = cc in omega arith, h)
anew_refused k (GetItem name) n s a r h = (λ e z. let q : ◌≡◌ {A = ℕ} 0 1 = cc in omega arith, h)
anew_refused k (Cast t) n s a r h = (λ e z. let q : ◌≡◌ {A = ℕ} 0 1 = cc in omega arith, h)
anew_refused k (Binary o) n s a r h = (λ e z. let q : ◌≡◌ {A = ℕ} 0 1 = cc in omega arith, h)
anew_refused k (Between o) n s a r h = (λ e z. let q : ◌≡◌ {A = ℕ} 0 1 = cc in omega arith, h)
anew_refused k (Host c) n s a r h = (λ e z. let q : ◌≡◌ {A = ℕ} 0 1 = cc in omega arith, h)

module _ (m : Meaning) (s : Store) (sound : Sound m s) (k : ℕ) (cs : List ℕ) (n : ℕ)
    (enough : min n 8 ≤ length cs) where
  node_refused : (r : Refusal) (o : Option Node) → node_at s k ≡ o → (rebuilt m k o cs n s).0 ≡ Err r
      → RefusedOld m s k cs n r
  node_refused r None a h =
      elim (cases_lt k (length s.nodes)) [
        | inl l ↦ let (x, b) = node_there s.nodes k l in none_some x (sym a ∙ b)
        | inr l ↦ subst (RefusedOld m s k cs n) (err_same h) (no_such l)
      ]
  node_refused r (Some x) a h =
      let (other, g) = anew_refused k x.function n s _ r h in
      RefusedOld.of_the_tree x a other
      (has_cause m s sound (old_plan k x cs n s) enough (with_operands (tree s k) (trees s (take n cs)))
      (other_tree m s sound k x a cs n enough) r (entered_refused [] s _ r g))

  old_refused : (r : Refusal) → RefusedOld m s k cs n r → (with_children m k cs n s).0 ≡ Err r
  old_refused r (no_such l) = ap (λ (o : Option Node). (rebuilt m k o cs n s).0) (node_past s.nodes k l)
  old_refused r (RefusedOld.of_the_tree x a other c) =
      ap (λ (o : Option Node). (rebuilt m k o cs n s).0) a
      ∙ ap (λ (z : Result ℕ Refusal × Store). z.0) (is_anew k x.function n s _ other)
      ∙ ap (λ (z : Result Node Refusal). (entered [] s z).0)
      (is_refused m s sound (old_plan k x cs n s) enough (with_operands (tree s k) (trees s (take n cs)))
      (other_tree m s sound k x a cs n enough) r c)

pub rebuilding_refuses_exactly : RebuildingRefusesExactly
rebuilding_refuses_exactly m s sound k cs n enough r =
    (node_refused m s sound k cs n enough r (node_at s k) refl, old_refused m s sound k cs n enough r)
