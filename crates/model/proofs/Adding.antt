-- Steps only add to a store, and change nothing where they refuse.
use Rattle.std.proofs.Common.{◌≡◌, ℕ, zero, suc, List, [], ◌∷◌, ◌++◌, Some, None, Ok, Err, Option, Result, sym, refl}
use Rattle.std.proofs.Common.{ap, ◌∙◌, append_assoc, append-nil}
use Rattle.vocabulary.specs.declared.nodes.Function.{Function}
use Rattle.vocabulary.specs.declared.nodes.Function.TheVariants.{Root, Literal, GetItem, Cast, Binary, Between, Host}
use Rattle.vocabulary.specs.Nodes.{BoundNode as Node}
use Rattle.vocabulary.specs.declared.refusals.Refusal.{Refusal}
use Rattle.meaning.specs.Hosts.{Meaning}
use Rattle.model.specs.Stores.{Store, node_at, grown}
use Rattle.model.specs.Making.{entered}
use Rattle.model.specs.Rebuilding.{itself_or, rebuilt}
use Rattle.model.specs.Steps.{Step, makes, rebuilds, perform, after}
use Rattle.model.specs.LawsOfMaking.{Grows, StepsOnlyAdd, RefusalsChangeNothing}
use Rattle.model.proofs.Children.{err_ok}

grows_same : (s : Store) → Grows s s
grows_same s = record {
  newer = [];
  more = [];
  nodes = refl;
  text = sym (append-nil s.text);
  schemas = refl;
  records = refl;
  bytes = refl;
}

grows_again : (s t u : Store) → Grows s t → Grows t u → Grows s u
grows_again s t u a b = record {
  newer = b.newer ++ a.newer;
  more = a.more ++ b.more;
  nodes =
      b.nodes ∙ ap (λ (z : List Node). b.newer ++ z) a.nodes
      ∙ sym (append_assoc b.newer a.newer s.nodes);
  text =
      b.text ∙ ap (λ (z : List ℕ). z ++ b.more) a.text
      ∙ append_assoc s.text a.more b.more;
  schemas = b.schemas ∙ a.schemas;
  records = b.records ∙ a.records;
  bytes = b.bytes ∙ a.bytes;
}

-- what a step does of itself: it leaves the store, or grows it by one node and is granted
pub data Does (s : Store) : Result ℕ Refusal × Store → Type 0 where
  leaves : (a : Result ℕ Refusal) → Does s (a, s)
  grows : (k : ℕ) (x : Node) (bs : List ℕ) → Does s (Ok k, grown x bs s)

entered_does : (bs : List ℕ) (s : Store) (r : Result Node Refusal) → Does s (entered bs s r)
entered_does bs s (Ok x) = grows _ x bs
entered_does bs s (Err r) = leaves (Err r)

itself_does : (k : ℕ) (f : Function) (n : ℕ) (s : Store) (anew : Result ℕ Refusal × Store) → Does s anew
    → Does s (itself_or k f n s anew)
itself_does k Root zero s anew d = leaves (Ok k)
itself_does k Root (suc n) s anew d = d
itself_does k (Literal t v) n s anew d = d
itself_does k (GetItem name) n s anew d = d
itself_does k (Cast t) n s anew d = d
itself_does k (Binary o) n s anew d = d
itself_does k (Between o) n s anew d = d
itself_does k (Host c) n s anew d = d

rebuilt_does : (m : Meaning) (k : ℕ) (o : Option Node) (cs : List ℕ) (n : ℕ) (s : Store)
    → Does s (rebuilt m k o cs n s)
rebuilt_does m k None cs n s = leaves (Err _)
rebuilt_does m k (Some x) cs n s = itself_does k x.function n s _ (entered_does [] s _)

pub step_does : (m : Meaning) (c : Step) (s : Store) → Does s (perform m c s)
step_does m (makes w cs n) s = entered_does _ s _
step_does m (rebuilds k cs n) s = rebuilt_does m k (node_at s k) cs n s

does_grow : (s : Store) (a : Result ℕ Refusal × Store) → Does s a → Grows s a.1
does_grow s (a, s2) (leaves b) = grows_same s
does_grow s (a, s2) (grows k x bs) = record {
  newer = x ∷ [];
  more = bs;
  nodes = refl;
  text = refl;
  schemas = refl;
  records = refl;
  bytes = refl;
}

does_nothing : (s : Store) (a : Result ℕ Refusal × Store) → Does s a → (r : Refusal) → a.0 ≡ Err r → a.1 ≡ s
does_nothing s a (leaves b) r e = refl
does_nothing s a (grows k x bs) r e = err_ok r k (sym e)

pub steps_only_add : StepsOnlyAdd
steps_only_add m s [] = grows_same s
steps_only_add m s (c ∷ cs) =
    grows_again s (perform m c s).1 (after m cs (perform m c s).1)
    (does_grow s (perform m c s) (step_does m c s)) (steps_only_add m (perform m c s).1 cs)

pub refusals_change_nothing : RefusalsChangeNothing
refusals_change_nothing m c s r e = does_nothing s (perform m c s) (step_does m c s) r e
