-- A merge takes the first pair, read off the lists of conjuncts.
use Rattle.std.proofs.Common.{◌≡◌, List, [], ◌∷◌, ◌++◌, Some, None, Option, sym, refl, ap, ◌∙◌, subst, append_assoc}
use Rattle.std.proofs.Common.{append-nil}
use Rattle.vocabulary.specs.declared.operators.Connective.TheVariants.{And, Or}
use Rattle.meaning.specs.Columns.{Schemas}
use Rattle.meaning.specs.Conjuncts.{conjuncts, replace_first, EachConjunct}
use Rattle.meaning.specs.Fusing.{fuse, Merged, merged, beside, before, keep_right, keep_left}
use Rattle.meaning.specs.Hosts.{Meaning}
use Rattle.meaning.specs.LawsOfFusing.{Apart, All, left_over, FirstPair, MergingTakesTheFirstPair}
use Rattle.meaning.specs.Trees.{Expr, logic, node}
use Rattle.meaning.proofs.ConjunctCases.{Single, single_conjuncts, each_map, replace_none, replace_cases, merge_cases}
use Rattle.meaning.proofs.ConjunctCases.{merge_none}
use Rattle.meaning.proofs.RangeForms.{fuse_is_between}

all_append : (P : Expr → Type 0) (xs ys : List Expr) → All P xs → All P ys → All P (xs ++ ys)
all_append P [] ys p q = q
all_append P (x ∷ xs) ys p q = (p.0, all_append P xs ys p.1 q)

-- what holds of each conjunct holds of each in the list of conjuncts
each_list : (P : Expr → Type 0) (e : Expr) → EachConjunct P e → All P (conjuncts e)
each_list P (logic And a b) h = all_append P (conjuncts a) (conjuncts b) (each_list P a h.0) (each_list P b h.1)
each_list P (logic Or a b) h = (h, tt)
each_list P (node f es) h = (h, tt)

-- k is l with one conjunct replaced by the answer for it, the first that has one
record Replaced (g : Expr → Option Expr) (l k : Expr) : Type 0 where
  old : Expr
  new : Expr
  front : List Expr
  back : List Expr
  answered : g old ≡ Some new
  stood : conjuncts l ≡ front ++ (old ∷ back)
  first : All (λ x. g x ≡ None) front
  stands : conjuncts k ≡ front ++ (new ∷ back)

replaced_left : (g : Expr → Option Expr) (a b k : Expr) → Replaced g a k → Replaced g (logic And a b) (logic And k b)
replaced_left g a b k p =
    record {
      old = p.old;
      new = p.new;
      front = p.front;
      back = p.back ++ conjuncts b;
      answered = p.answered;
      stood = ap (λ (z : List Expr). z ++ conjuncts b) p.stood
          ∙ append_assoc p.front (p.old ∷ p.back) (conjuncts b);
      first = p.first;
      stands = ap (λ (z : List Expr). z ++ conjuncts b) p.stands
          ∙ append_assoc p.front (p.new ∷ p.back) (conjuncts b);
    }

replaced_right : (g : Expr → Option Expr) (a b k : Expr) → All (λ x. g x ≡ None) (conjuncts a) → Replaced g b k
    → Replaced g (logic And a b) (logic And a k)
replaced_right g a b k h p =
    record {
      old = p.old;
      new = p.new;
      front = conjuncts a ++ p.front;
      back = p.back;
      answered = p.answered;
      stood = ap (λ (z : List Expr). conjuncts a ++ z) p.stood
          ∙ sym (append_assoc (conjuncts a) p.front (p.old ∷ p.back));
      first = all_append (λ x. g x ≡ None) (conjuncts a) p.front h p.first;
      stands = ap (λ (z : List Expr). conjuncts a ++ z) p.stands
          ∙ sym (append_assoc (conjuncts a) p.front (p.new ∷ p.back));
    }

-- replace-first replaces the first conjunct that has an answer
replace_splits : (g : Expr → Option Expr) → ((c b : Expr) → g c ≡ Some b → conjuncts b ≡ b ∷ []) → (l k : Expr)
    → replace_first g l ≡ Some k → Replaced g l k
replace_splits g single =
    replace_cases g (Replaced g) (λ a b c e i. replaced_left g a b c i)
    (λ a b c n e i. replaced_right g a b c (each_list (λ x. g x ≡ None) a (replace_none g a n)) i)
    (λ e k s h.
    record {
      old = e;
      new = k;
      front = [];
      back = [];
      answered = h;
      stood = single_conjuncts e s;
      first = tt;
      stands = single e k h;
    })

module _ (m : Meaning) (ss : Schemas) where
  -- the Between of a pair is a conjunct of its own
  fuse_conjunct : (d c b : Expr) → fuse m ss d c ≡ Some b → conjuncts b ≡ b ∷ []
  fuse_conjunct d c b h =
      let (p, q, e) = fuse_is_between m ss d c b h in subst (λ (z : Expr). conjuncts z ≡ z ∷ []) e refl

  -- the sides after a merge come of the first pair
  abbrev MergeOf : Expr → Expr → Merged → Type 0
  MergeOf l r (merged k x) = FirstPair m ss l r k x

  in_beside : (b : Expr) (x : Option Expr) → left_over (Some (beside x b)) ≡ left_over x ++ conjuncts b
  in_beside b None = refl
  in_beside b (Some a) = refl

  -- a merge in the left part of an And
  merge_left : (l a b : Expr) (x : Merged) → MergeOf l a x → MergeOf l (logic And a b) (keep_right b x)
  merge_left l a b (merged k x) p =
      record {
        left_partner = p.left_partner;
        right_partner = p.right_partner;
        pair = p.pair;
        left_before = p.left_before;
        left_after = p.left_after;
        right_before = p.right_before;
        right_after = p.right_after ++ conjuncts b;
        fused = p.fused;
        in_left = p.in_left;
        in_right = ap (λ (z : List Expr). z ++ conjuncts b) p.in_right
            ∙ append_assoc p.right_before (p.right_partner ∷ p.right_after) (conjuncts b);
        first_left = p.first_left;
        first_right = p.first_right;
        new_left = p.new_left;
        new_right = in_beside b x
            ∙ ap (λ (z : List Expr). z ++ conjuncts b) p.new_right
            ∙ append_assoc p.right_before p.right_after (conjuncts b);
      }

  in_before : (a : Expr) (x : Option Expr) → left_over (Some (before a x)) ≡ conjuncts a ++ left_over x
  in_before a None = sym (append-nil (conjuncts a))
  in_before a (Some b) = refl

  -- y has no partner among the conjuncts of l
  abbrev Alone : Expr → Expr → Type 0
  Alone l y = All (λ x. fuse m ss y x ≡ None) (conjuncts l)

  apart_alone : (l a : Expr) → Apart m ss l a → All (Alone l) (conjuncts a)
  apart_alone l a h =
      each_list (Alone l) a
      (each_map (λ y. EachConjunct (λ x. fuse m ss y x ≡ None) l) (Alone l)
      (λ y i. each_list (λ x. fuse m ss y x ≡ None) l i) a h)

  -- a merge in the right part, where the left part has no partner
  merge_right : (l a b : Expr) (x : Merged) → Apart m ss l a → MergeOf l b x
      → MergeOf l (logic And a b) (keep_left a x)
  merge_right l a b (merged k x) h p =
      record {
        left_partner = p.left_partner;
        right_partner = p.right_partner;
        pair = p.pair;
        left_before = p.left_before;
        left_after = p.left_after;
        right_before = conjuncts a ++ p.right_before;
        right_after = p.right_after;
        fused = p.fused;
        in_left = p.in_left;
        in_right = ap (λ (z : List Expr). conjuncts a ++ z) p.in_right
            ∙ sym (append_assoc (conjuncts a) p.right_before (p.right_partner ∷ p.right_after));
        first_left = p.first_left;
        first_right = all_append (Alone l) (conjuncts a) p.right_before (apart_alone l a h) p.first_right;
        new_left = p.new_left;
        new_right = in_before a x
            ∙ ap (λ (z : List Expr). conjuncts a ++ z) p.new_right
            ∙ sym (append_assoc (conjuncts a) p.right_before p.right_after);
      }

  -- a merge at a right conjunct
  merge_here : (l r k : Expr) → Single r → replace_first (fuse m ss r) l ≡ Some k → FirstPair m ss l r k None
  merge_here l r k s e =
      let p = replace_splits (fuse m ss r) (fuse_conjunct r) l k e in
      record {
        left_partner = p.old;
        right_partner = r;
        pair = p.new;
        left_before = p.front;
        left_after = p.back;
        right_before = [];
        right_after = [];
        fused = p.answered;
        in_left = p.stood;
        in_right = single_conjuncts r s;
        first_left = p.first;
        first_right = tt;
        new_left = p.stands;
        new_right = refl;
      }

pub merging_takes_the_first_pair : MergingTakesTheFirstPair
merging_takes_the_first_pair m ss l r k rest h =
    merge_cases m ss l (MergeOf m ss l) (λ a b y e i. merge_left m ss l a b y i)
    (λ a b y n e i. merge_right m ss l a b y (merge_none m ss l a n) i) (λ r k s e. merge_here m ss l r k s e) r
    (merged k rest) h
