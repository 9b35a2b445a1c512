-- Taking options, outcomes and operand lists apart.
use Rattle.std.proofs.Common.{◌≡◌, true, false, ◌⊎◌, List, [], ◌∷◌, Some, None, Option, sym, refl, ap}
use Rattle.std.proofs.Common.{inl, inr, arith}
use Rattle.std.specs.Option.{option_map, option_or}
use Rattle.std.proofs.lemmas.Bool.{false≢true}
use Rattle.std.proofs.lemmas.Option.{none-some, same_Some}
use Rattle.vocabulary.specs.declared.operators.Connective.{Connective}
use Rattle.meaning.specs.Kleene.{kleene}
use Rattle.meaning.specs.Lists.{of_none, of_one, of_two, of_three}
use Rattle.meaning.specs.Outcomes.{Fault, Outcome, value, fault, then, settled, and_then}
use Rattle.meaning.specs.Values.{Value}

-- None is no answer: the library's, of any goal
pub none_some {ℓ} : {A : Type 0} {B : Type ℓ} (a : A) → ◌≡◌ {A = Option A} None (Some a) → B
none_some a p = absurd (none-some a p)

pub some_none : {A : Type 0} {B : Type 0} (a : A) → ◌≡◌ {A = Option A} (Some a) None → B
some_none a p = none_some a (sym p)

-- a fault is no value
pub fault_value : {A : Type 0} {B : Type 0} (x : Fault) (a : A) → ◌≡◌ {A = Outcome A} (fault x) (value a) → B
fault_value x a p = absurd (grind arith)

-- the library's, of any goal
pub false_true : {B : Type 0} → false ≡ true → B
false_true p = absurd (false≢true p)

-- what an outcome holds is one where the outcomes are
pub value_same : {A : Type 0} {a b : A} → value a ≡ value b → a ≡ b
value_same p = cc

pub fault_same : {A : Type 0} {x y : Fault} → ◌≡◌ {A = Outcome A} (fault x) (fault y) → x ≡ y
fault_same p = cc

-- what goes on to an answer had one
pub and_then_some : {A B : Type 0} (x : Option A) (f : A → Option B) (b : B) → and_then x f ≡ Some b
    → (a : A) × (x ≡ Some a) × (f a ≡ Some b)
and_then_some None f b p = none_some b p
and_then_some (Some a) f b p = (a, refl, p)

-- what goes on to none has none
pub and_then_none : {A B : Type 0} (x : Option A) → and_then {B = B} x (λ (a : A). None) ≡ None
and_then_none None = refl
and_then_none (Some a) = refl

-- there is none where there was none, or where going on gave none
pub and_then_refused : {A B : Type 0} (x : Option A) (f : A → Option B) → and_then x f ≡ None
    → (x ≡ None) ⊎ ((a : A) × (x ≡ Some a) × (f a ≡ None))
and_then_refused None f h = inl refl
and_then_refused (Some a) f h = inr (a, refl, h)

pub mapped_some : {A B : Type 0} (f : A → B) (x : Option A) (b : B) → option_map f x ≡ Some b
    → (a : A) × (x ≡ Some a) × (f a ≡ b)
mapped_some f None b p = none_some b p
mapped_some f (Some a) b p = (a, refl, same_Some _ _ p)

pub mapped_none : {A B : Type 0} (f : A → B) (x : Option A) → option_map f x ≡ None → x ≡ None
mapped_none f None p = refl
mapped_none f (Some a) p = some_none (f a) p

-- the first answer, or the second where there is no first
pub or_other_some : {A : Type 0} (x y : Option A) (a : A) → option_or x y ≡ Some a
    → (x ≡ Some a) ⊎ ((x ≡ None) × (y ≡ Some a))
or_other_some None y a p = inr (refl, p)
or_other_some (Some b) y a p = inl p

pub or_other_none : {A : Type 0} (x y : Option A) → option_or x y ≡ None → (x ≡ None) × (y ≡ None)
or_other_none None y p = (refl, p)
or_other_none (Some b) y p = some_none b p

-- what goes on to a value had one
pub then_value : {A B : Type 0} (x : Outcome A) (f : A → Outcome B) (b : B) → then x f ≡ value b
    → (a : A) × (x ≡ value a) × (f a ≡ value b)
then_value (value a) f b p = (a, refl, p)
then_value (fault x) f b p = fault_value x b p

pub settled_some : {A : Type 0} (x : Outcome A) (a : A) → settled x ≡ Some a → x ≡ value a
settled_some (value b) a p = ap value (same_Some _ _ p)
settled_some (fault x) a p = none_some a p

-- going on, faults left out
pub settled_then : {A B : Type 0} (x : Outcome A) (f : A → Outcome B)
    → settled (then x f) ≡ and_then (settled x) (λ (a : A). settled (f a))
settled_then (value a) f = refl
settled_then (fault x) f = refl

-- the value of an operand before those of others
abbrev pub listed : Outcome Value → Outcome (List Value) → Outcome (List Value)
listed x ys = then x (λ v. then ys (λ vs. value (v ∷ vs)))

-- the values of a list of operands, faults left out
pub settled_cons : (x : Outcome Value) (ys : Outcome (List Value))
    → settled (listed x ys)
    ≡ and_then (settled x) (λ (v : Value). and_then (settled ys) (λ (vs : List Value). Some (v ∷ vs)))
settled_cons (value v) (value vs) = refl
settled_cons (value v) (fault x) = refl
settled_cons (fault x) ys = refl

-- And and Or of two outcomes, faults left out
pub settled_logic : (o : Connective) (x y : Outcome Value)
    → settled (then x (λ (v : Value). then y (λ (w : Value). value (kleene o v w))))
    ≡ and_then (settled x) (λ (v : Value). and_then (settled y) (λ (w : Value). Some (kleene o v w)))
settled_logic o (value v) (value w) = refl
settled_logic o (value v) (fault x) = refl
settled_logic o (fault x) y = refl

-- two operands are evaluated one after the other
pub two_values : (x y : Outcome Value) (f : List Value → Outcome Value)
    → then (listed x (listed y (value []))) f ≡ then x (λ (v : Value). then y (λ (w : Value). f (v ∷ w ∷ [])))
two_values (value v) (value w) f = refl
two_values (value v) (fault w) f = refl
two_values (fault v) y f = refl

-- and so are three
pub three_values : (x y z : Outcome Value) (f : List Value → Outcome Value)
    → then (listed x (listed y (listed z (value [])))) f
    ≡ then x (λ (v : Value). then y (λ (w : Value). then z (λ (u : Value). f (v ∷ w ∷ u ∷ []))))
three_values (value v) (value w) (value u) f = refl
three_values (value v) (value w) (fault u) f = refl
three_values (value v) (fault w) z f = refl
three_values (fault v) y z f = refl

module _ {A B : Type 0} where
  -- an operand list that is taken has as many operands as are asked for
  pub of_none_is : (x : B) (xs : List A) (b : B) → of_none None (Some x) xs ≡ Some b → (xs ≡ []) × (x ≡ b)
  of_none_is x [] b p = (refl, same_Some _ _ p)
  of_none_is x (a ∷ xs) b p = none_some b p

  pub of_none_some : (y : Option B) (xs : List A) (b : B) → of_none None y xs ≡ Some b → (xs ≡ []) × (y ≡ Some b)
  of_none_some y [] b p = (refl, p)
  of_none_some y (a ∷ xs) b p = none_some b p

  pub of_one_some : (f : A → Option B) (xs : List A) (b : B) → of_one None f xs ≡ Some b
      → (a : A) × (xs ≡ a ∷ []) × (f a ≡ Some b)
  of_one_some f [] b p = none_some b p
  of_one_some f (a ∷ []) b p = (a, refl, p)
  of_one_some f (a ∷ (c ∷ xs)) b p = none_some b p

  pub of_two_some : (f : A → A → Option B) (xs : List A) (b : B) → of_two None f xs ≡ Some b
      → (a c : A) × (xs ≡ a ∷ c ∷ []) × (f a c ≡ Some b)
  of_two_some f [] b p = none_some b p
  of_two_some f (a ∷ []) b p = none_some b p
  of_two_some f (a ∷ (c ∷ [])) b p = (a, c, refl, p)
  of_two_some f (a ∷ (c ∷ (d ∷ xs))) b p = none_some b p

  pub of_three_some : (f : A → A → A → Option B) (xs : List A) (b : B) → of_three None f xs ≡ Some b
      → (a c d : A) × (xs ≡ a ∷ c ∷ d ∷ []) × (f a c d ≡ Some b)
  of_three_some f [] b p = none_some b p
  of_three_some f (a ∷ []) b p = none_some b p
  of_three_some f (a ∷ (c ∷ [])) b p = none_some b p
  of_three_some f (a ∷ (c ∷ (d ∷ []))) b p = (a, c, d, refl, p)
  of_three_some f (a ∷ (c ∷ (d ∷ (e ∷ xs)))) b p = none_some b p
