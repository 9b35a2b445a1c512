-- Tests that refused, and the first child that no node has.
use Rattle.std.proofs.Common.{◌≡◌, ℕ, ◌≤◌, Bool, true, false, ◌⊎◌, List, [], ◌∷◌, ◌++◌, length, Some, None, Ok, Err}
use Rattle.std.proofs.Common.{Option, Result, sym, refl, ap, ◌∙◌, subst, inl, inr}
use Rattle.std.proofs.lemmas.Bool.{cases_lt}
use Rattle.meaning.proofs.CaseSplits.{none_some}
use Rattle.vocabulary.specs.Nodes.{BoundNode as Node}
use Rattle.vocabulary.specs.declared.refusals.Refusal.{Refusal}
use Rattle.model.specs.Stores.{Store, node_at}
use Rattle.model.specs.Making.{before, with_record, looked_up, check}
use Rattle.model.specs.Soundness.{Below}
use Rattle.model.specs.LawsOfRefusing.{FirstMissing}
use Rattle.model.proofs.Numbers.{node_below, node_there, node_past}
use Rattle.model.proofs.Children.{err_ok}

pub err_same : {A E : Type 0} {a b : E} → ◌≡◌ {A = Result A E} (Err a) (Err b) → a ≡ b
err_same p = cc

-- a test that refused, or was passed
pub either : (b : Bool) (r : Refusal) (next : Result Node Refusal) (q : Refusal) → check b r next ≡ Err q
    → ((b ≡ false) × (r ≡ q)) ⊎ ((b ≡ true) × (next ≡ Err q))
either true r next q e = inr (refl, e)
either false r next q e = inl (refl, err_same e)

-- numbers up to the first that no node has
pub missing_first : (s : Store) (ks : List ℕ) (k : ℕ) → looked_up s ks ≡ Err k → FirstMissing s ks k
missing_first s [] k e = err_ok k [] (sym e)
missing_first s (j ∷ ks) k e = go (missing_first s ks k) (node_at s j) (looked_up s ks) refl refl e
  where
    more : (x : Node) → node_at s j ≡ Some x → FirstMissing s ks k → FirstMissing s (j ∷ ks) k
    more x a f = record {
      front = j ∷ f.front;
      back = f.back;
      split = ap (λ (z : List ℕ). j ∷ z) f.split;
      there = (node_below s.nodes j x a, f.there);
      missing = f.missing;
    }

    past : node_at s j ≡ None → length s.nodes ≤ j
    past a = elim (cases_lt j (length s.nodes)) [
      | inl l ↦ let (x, b) = node_there s.nodes j l in none_some x (sym a ∙ b)
      | inr l ↦ l
    ]

    go : (looked_up s ks ≡ Err k → FirstMissing s ks k) → (o : Option Node) (r : Result (List Node) ℕ)
        → node_at s j ≡ o → looked_up s ks ≡ r → with_record j o r ≡ Err k → FirstMissing s (j ∷ ks) k
    go f None r a b h =
        let i : j ≡ k = err_same h in
        record {
          front = [];
          back = ks;
          split = ap (λ (z : ℕ). z ∷ ks) i;
          there = tt;
          missing = subst (λ (z : ℕ). length s.nodes ≤ z) i (past a);
        }
    go f (Some x) (Ok xs) a b h = err_ok k (x ∷ xs) (sym h)
    go f (Some x) (Err i) a b h = more x a (f (b ∙ ap Err (err_same h)))

pub first_missing : (s : Store) (front : List ℕ) (k : ℕ) (back : List ℕ) → Below (length s.nodes) front
    → length s.nodes ≤ k → looked_up s (front ++ (k ∷ back)) ≡ Err k
first_missing s [] k back w h = ap (λ (o : Option Node). with_record k o (looked_up s back)) (node_past s.nodes k h)
first_missing s (j ∷ front) k back w h =
    let (x, a) = node_there s.nodes j w.0 in
    ap (λ (o : Option Node). with_record j o (looked_up s (front ++ (k ∷ back)))) a
    ∙ ap (before x) (first_missing s front k back w.1 h)
