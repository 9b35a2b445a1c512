-- What is granted is the tree asked for, under the next number.
use Rattle.std.proofs.Common.{◌≡◌, ℕ, ◌≤◌, min, true, List, [], ◌∷◌, length, get_or, take, Ok, Err, Result, sym, refl}
use Rattle.std.proofs.Common.{ap, ◌∙◌, arith}
use Rattle.std.proofs.lemmas.Bool.{eqb-true}
use Rattle.vocabulary.specs.Nodes.{BoundNode as Node}
use Rattle.vocabulary.specs.declared.operators.Family.{Family}
use Rattle.vocabulary.specs.declared.operators.Family.TheVariants.{Compare, Connect, Compute}
use Rattle.vocabulary.specs.declared.refusals.Refusal.{Refusal}
use Rattle.vocabulary.specs.Operators.{family_of}
use Rattle.meaning.specs.Hosts.{Meaning}
use Rattle.meaning.specs.Trees.{Fn, Expr, node, of_family}
use Rattle.model.specs.Stores.{grown}
use Rattle.model.specs.Shapes.{join, over, family_head, shaped, trees_by, shape_tree, tree}
use Rattle.model.specs.Wanted.{New, root, literal, get_item, cast, binary, between, host, new_bytes, new_head}
use Rattle.model.specs.Wanted.{new_tree}
use Rattle.model.specs.Making.{named, head_counts, build, entered, schema_first, new_plan}
use Rattle.model.specs.LawsOfMaking.{Made, MadeAsAsked}
use Rattle.model.proofs.Children.{err_ok, ok_same}
use Rattle.model.proofs.Plans.{built, new_honest}
use Rattle.model.proofs.Growing.{head_few, planned_tree}
use Rattle.model.proofs.Stepping.{schema_passed}

-- the first one, two or three of enough numbers
pub named_one : (cs : List ℕ) (n : ℕ) → min n 8 ≤ length cs → n ≡ 1 → named cs n ≡ get_or cs 0 0 ∷ []
named_one [] n l e = absurd (omega arith)
named_one (a ∷ cs) n l e = ap (named (a ∷ cs)) e

pub named_two : (cs : List ℕ) (n : ℕ) → min n 8 ≤ length cs → n ≡ 2
    → named cs n ≡ get_or cs 0 0 ∷ get_or cs 1 0 ∷ []
named_two [] n l e = absurd (omega arith)
named_two (a ∷ []) n l e = absurd (omega arith)
named_two (a ∷ b ∷ cs) n l e = ap (named (a ∷ b ∷ cs)) e

pub named_three : (cs : List ℕ) (n : ℕ) → min n 8 ≤ length cs → n ≡ 3
    → named cs n ≡ get_or cs 0 0 ∷ get_or cs 1 0 ∷ get_or cs 2 0 ∷ []
named_three [] n l e = absurd (omega arith)
named_three (a ∷ []) n l e = absurd (omega arith)
named_three (a ∷ b ∷ []) n l e = absurd (omega arith)
named_three (a ∷ b ∷ c ∷ cs) n l e = ap (named (a ∷ b ∷ c ∷ cs)) e

pub named_all : (cs : List ℕ) (n : ℕ) → n ≤ 8 → named cs n ≡ take n cs
named_all cs n h = let e : min n 8 ≡ n = omega arith in ap (λ (z : ℕ). take z cs) e

module _ (m : Meaning) (f : ℕ → Expr) (cs : List ℕ) (n : ℕ) (enough : min n 8 ≤ length cs) where
  family_tree : (o : Family) → head_counts m (family_head o) n ≡ true
      → shape_tree f (shaped (family_head o) (named cs n)) ≡ of_family o (f (get_or cs 0 0)) (f (get_or cs 1 0))
  family_tree (Compare c) h =
      ap (λ (ks : List ℕ). node (Fn.compare c) (trees_by f ks)) (named_two cs n enough (eqb-true n 2 h))
  family_tree (Connect o) h =
      ap (λ (ks : List ℕ). shape_tree f (shaped (join o) ks)) (named_two cs n enough (eqb-true n 2 h))
  family_tree (Compute o) h =
      ap (λ (ks : List ℕ). node (Fn.compute o) (trees_by f ks)) (named_two cs n enough (eqb-true n 2 h))

  -- what a new node computes of the children named is the tree asked for
  pub asked_tree : (w : New) → head_counts m (new_head w) n ≡ true
      → shape_tree f (shaped (new_head w) (named cs n)) ≡ new_tree f cs n w
  asked_tree (root q) h = ap (λ (z : ℕ). node (Fn.root q) (trees_by f (named cs z))) (eqb-true n 0 h)
  asked_tree (literal t v) h = ap (λ (z : ℕ). node (Fn.literal t v) (trees_by f (named cs z))) (eqb-true n 0 h)
  asked_tree (get_item name) h =
      ap (λ (ks : List ℕ). node (Fn.get_item name) (trees_by f ks)) (named_one cs n enough (eqb-true n 1 h))
  asked_tree (cast t) h =
      ap (λ (ks : List ℕ). node (Fn.cast t) (trees_by f ks)) (named_one cs n enough (eqb-true n 1 h))
  asked_tree (binary o) h = family_tree (family_of o) h
  asked_tree (between o) h =
      ap (λ (ks : List ℕ). node (Fn.between o) (trees_by f ks)) (named_three cs n enough (eqb-true n 3 h))
  asked_tree (host c) h =
      ap (λ (ks : List ℕ). node (Fn.call c) (trees_by f ks)) (named_all cs n (head_few m (over (Fn.call c)) n h))

pub made_as_asked : MadeAsAsked
made_as_asked m s sound w cs n k enough e = go (schema_first w (build m (new_plan w cs n s) s)) refl e
  where
    go : (r : Result Node Refusal) → schema_first w (build m (new_plan w cs n s) s) ≡ r
        → (entered (new_bytes w) s r).0 ≡ Ok k → Made m w cs n s (entered (new_bytes w) s r).1 k
    go (Err r) a h = err_ok r k h
    go (Ok x) a h =
        let b = built m (new_plan w cs n s) s x (schema_passed w (build m (new_plan w cs n s) s) x a) in
        let number : length s.nodes ≡ k = ok_same h in
        record {
          number = sym number;
          tree_is =
              ap (tree (grown x (new_bytes w) s)) (sym number)
              ∙ planned_tree m s sound (new_plan w cs n s) (new_honest m s w cs n) enough x b
              ∙ asked_tree m (tree s) cs n enough w b.counted;
          one_more = refl;
          text_is = refl;
        }
