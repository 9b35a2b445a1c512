-- A binding that is refused stops at a node of the tree, for a cause.
use Rattle.std.proofs.Common.{◌≡◌, ℕ, ◌+◌, ◌≤◌, List, [], ◌∷◌, length, Ok, Err, Result, sym, refl, ap, ◌∙◌, inl, inr}
use Rattle.std.proofs.Common.{arith}
use Rattle.vocabulary.specs.declared.refusals.Refusal.{Refusal}
use Rattle.meaning.specs.Hosts.{Meaning}
use Rattle.meaning.specs.Trees.{Expr, size, sizes}
use Rattle.model.specs.Stores.{Store}
use Rattle.model.specs.Shapes.{trees_by}
use Rattle.model.specs.Soundness.{Sound}
use Rattle.vocabulary.specs.Nodes.{UnboundNode}
use Rattle.model.specs.BindingTrees.{onward, bind_all}
use Rattle.model.specs.LawsOfRefusedBinding.{OneOf, StandsIn, itself, under}
use Rattle.model.proofs.Children.{err_ok}
use Rattle.model.proofs.Missing.{err_same}
use Rattle.model.proofs.BindingGranted.{Kept, Bound, Binds}
use Rattle.model.proofs.Numbers.{node_below, node_older}

-- one more node in front changes no tree
pub stands_still : (x : UnboundNode) (xs : List UnboundNode) (n j : ℕ) → StandsIn xs n j → StandsIn (x ∷ xs) n j
stands_still x xs n j itself = itself
stands_still x xs n j (under y e w h) =
    under y (node_older x xs n (node_below xs n y e) ∙ e) w (stands_still x xs _ j h)

-- what an answer of two steps that is refused says of each
pub data Either {A B : Type 0} (p : Result A Refusal × Store) (f : A → Store → Result B Refusal × Store)
    (r : Refusal) (later : Store) : Type 0 where
  at_first : p ≡ (Err r, later) → Either p f r later
  at_second : (a : A) (s : Store) → p ≡ (Ok a, s) → f a s ≡ (Err r, later) → Either p f r later

pub onward_err : {A B : Type 0} (p : Result A Refusal × Store) (f : A → Store → Result B Refusal × Store)
    (r : Refusal) (later : Store) → onward p f ≡ (Err r, later) → Either p f r later
onward_err (Ok a, s) f r later e = at_second a s refl e
onward_err {A} {B} (Err q, s) f r later e =
    let i : q ≡ r = err_same (ap (λ (z : Result B Refusal × Store). z.0) e) in
    let j : s ≡ later = ap (λ (z : Result B Refusal × Store). z.1) e in
    at_first (ap (λ (z : Refusal). (Err z, s)) i ∙ ap (λ (z : Store). (Err r, z)) j)

-- each binding by f that is refused stops as P says
abbrev pub Stops : Meaning → (ℕ → Store → Result ℕ Refusal × Store) → (ℕ → Store → Refusal → Type 0) → Type 0
Stops m f P = (n : ℕ) (s : Store) → Sound m s → (r : Refusal) (later : Store) → f n s ≡ (Err r, later) → P n s r

-- of numbers bound left to right one was refused, in a store that has room taken by those before it
pub record StoppedChild (m : Meaning) (g : ℕ → Expr) (ks : List ℕ) (s : Store) (P : ℕ → Store → Refusal → Type 0)
    (r : Refusal) : Type 0 where
  pub child : ℕ
  pub one_of : OneOf child ks
  pub store : Store
  pub kept : Kept m s store
  pub room : length store.nodes + size (g child) ≤ length s.nodes + sizes (trees_by g ks)
  pub stops : P child store r

pub all_stopped : (m : Meaning) (f : ℕ → Store → Result ℕ Refusal × Store) (g : ℕ → Expr) → Binds m f g
    → (P : ℕ → Store → Refusal → Type 0) → Stops m f P
    → (ks : List ℕ) (s : Store) → Sound m s → (r : Refusal) (later : Store) → bind_all f ks s ≡ (Err r, later)
    → StoppedChild m g ks s P r
all_stopped m f g one P stop [] s sound r later e =
    err_ok r [] (sym (ap (λ (z : Result (List ℕ) Refusal × Store). z.0) e))
all_stopped m f g one P stop (k ∷ ks) s sound r later e =
    go (onward_err (f k s) (λ j s1. onward (bind_all f ks s1) (λ js s2. (Ok (j ∷ js), s2))) r later e)
    (λ t h j a. all_stopped m f g one P stop ks t h r later a)
  where
    here : f k s ≡ (Err r, later) → StoppedChild m g (k ∷ ks) s P r
    here a = record {
      child = k;
      one_of = inl refl;
      store = s;
      kept = record { sound = sound; grow = λ from h. h };
      room = omega arith;
      stops = stop k s sound r later a;
    }

    there : (j : ℕ) (t : Store) → Bound m (g k) s t j → StoppedChild m g ks t P r
        → StoppedChild m g (k ∷ ks) s P r
    there j t b c = record {
      child = c.child;
      one_of = inr c.one_of;
      store = c.store;
      kept = record {
        sound = c.kept.sound;
        grow = λ from h. c.kept.grow from (b.kept.grow from h);
      };
      room = omega (arith, c.room, b.as_many);
      stops = c.stops;
    }

    go : Either (f k s) (λ j s1. onward (bind_all f ks s1) (λ js s2. (Ok (j ∷ js), s2))) r later
        → ((t : Store) → Sound m t → (j : ℕ) → bind_all f ks t ≡ (Err r, later) → StoppedChild m g ks t P r)
        → StoppedChild m g (k ∷ ks) s P r
    go (at_first a) rest = here a
    go (at_second j t a b) rest =
        let bound = one k s sound j t a in
        elim (onward_err (bind_all f ks t) (λ js s2. (Ok (j ∷ js), s2)) r later b) [
          | at_first c ↦ there j t bound (rest t bound.kept.sound j c)
          | at_second js s2 c d ↦ err_ok r (j ∷ js) (sym (ap (λ (z : Result (List ℕ) Refusal × Store). z.0) d))
        ]
