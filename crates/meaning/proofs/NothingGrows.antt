-- Fusing makes no tree larger or deeper, and neither does optimizing.
use Rattle.std.proofs.Common.{◌≡◌, ℕ, zero, suc, ◌+◌, ◌≤◌, max, Some, None, Option, sym, refl, ap, inl, inr, arith}
use Rattle.vocabulary.specs.declared.operators.Connective.TheVariants.{And, Or}
use Rattle.meaning.specs.Columns.{Schemas}
use Rattle.meaning.specs.Conjuncts.{count_conjuncts, replace_first}
use Rattle.meaning.specs.Fusing.{fuse, Merged, merged, keep_right, keep_left, merge, merging_step, merging}
use Rattle.meaning.specs.Fusing.{find_between, find_between_all}
use Rattle.meaning.specs.Hosts.{Meaning}
use Rattle.meaning.specs.LawsOfSizes.{NothingGrows}
use Rattle.meaning.specs.Ranges.{Range}
use Rattle.meaning.specs.Trees.{Expr, logic, node, Exprs, nil, cons, depth, depths, size, sizes}
use Rattle.meaning.proofs.ConjunctCases.{replace_cases, merge_cases}
use Rattle.meaning.proofs.DepthSuffices.{optimize_depth}
use Rattle.meaning.proofs.RangeForms.{Ranges, range_inv, fuse_inv, fuse_is_between}
use Rattle.meaning.proofs.RulesShrink.{optimize_size}

-- a range comparison has four nodes on three levels
range_size : (c : Expr) (p : Range) → Ranges c p → (size c ≡ 4) × (depth c ≡ 3)
range_size c p (k, inl q) = (ap size q.0, ap depth q.0)
range_size c p (k, inr q) = (ap size q.0, ap depth q.0)

-- the Between of a pair has one node more than the left one of the pair, and no more levels
fused_size : (m : Meaning) (ss : Schemas) (d c b : Expr) → fuse m ss d c ≡ Some b
    → (size b ≤ suc (size c)) × (depth b ≤ depth c)
fused_size m ss d c b h =
    let (p, q, hp, hq, e, w) = fuse_inv m ss d c b h in
    let (s, t) = range_size c p (range_inv c p hp) in
    let (x, y, i) = fuse_is_between m ss d c b h in
    let j = sym (ap size i) in
    let k = sym (ap depth i) in
    (omega arith, omega arith)

-- one node more in place of a conjunct is one node more
replace_size : (g : Expr → Option Expr)
    → ((c b : Expr) → g c ≡ Some b → (size b ≤ suc (size c)) × (depth b ≤ depth c)) → (l k : Expr)
    → replace_first g l ≡ Some k → (size k ≤ suc (size l)) × (depth k ≤ depth l)
replace_size g f =
    replace_cases g (λ l k. (size k ≤ suc (size l)) × (depth k ≤ depth l)) (λ a b c e i. (omega arith, omega arith))
    (λ a b c n e i. (omega arith, omega arith)) (λ e k s h. f e k h)

-- the sides after a merge come to no more than a left side l and a right side of size s and depth t
abbrev Small : Expr → ℕ → ℕ → Merged → Type 0
Small l s t (merged k None) = (size k ≤ suc (size l + s)) × (depth k ≤ depth l)
Small l s t (merged k (Some d)) = (size k + size d ≤ size l + s) × ((depth k ≤ depth l) × (depth d ≤ t))

small_right : (l a b : Expr) (x : Merged) → Small l (size a) (depth a) x
    → Small l (suc (size a + size b)) (suc (max (depth a) (depth b))) (keep_right b x)
small_right l a b (merged k None) h = (omega arith, (h.1, omega arith))
small_right l a b (merged k (Some d)) h = (omega arith, (h.1.0, omega arith))

small_left : (l a b : Expr) (x : Merged) → Small l (size b) (depth b) x
    → Small l (suc (size a + size b)) (suc (max (depth a) (depth b))) (keep_left a x)
small_left l a b (merged k None) h = (omega arith, (h.1, omega arith))
small_left l a b (merged k (Some d)) h = (omega arith, (h.1.0, omega arith))

module _ (m : Meaning) (ss : Schemas) where
  merge_here : (l r k : Expr) → replace_first (fuse m ss r) l ≡ Some k → Small l (size r) (depth r) (merged k None)
  merge_here l r k e = let w = replace_size (fuse m ss r) (fused_size m ss r) l k e in (omega arith, w.1)

  -- a merge makes both sides together no larger, and neither deeper
  merge_small : (l r : Expr) (x : Merged) → merge m ss l r ≡ Some x → Small l (size r) (depth r) x
  merge_small l =
      merge_cases m ss l (λ r x. Small l (size r) (depth r) x) (λ a b y e i. small_right l a b y i)
      (λ a b y n e i. small_left l a b y i) (λ r k s e. merge_here l r k e)

  -- no larger and no deeper than the And of l and r
  abbrev Within : Expr → Expr → Expr → Type 0
  Within l r z = (size z ≤ suc (size l + size r)) × (depth z ≤ suc (max (depth l) (depth r)))

  step_within : (more : Expr → Expr → Expr) → ((l r : Expr) → Within l r (more l r))
      → (l r : Expr) (x : Option Merged) → merge m ss l r ≡ x → Within l r (merging_step more l r x)
  step_within more f l r None e = (omega arith, omega arith)
  step_within more f l r (Some (merged k None)) e = let w = merge_small l r (merged k None) e in (w.0, omega arith)
  step_within more f l r (Some (merged k (Some d))) e =
      let w = merge_small l r (merged k (Some d)) e in
      let v = f k d in
      (omega arith, omega arith)

  -- all merges give no more than the And
  merging_within : (n : ℕ) (l r : Expr) → Within l r (merging m ss n l r)
  unfolding merging
  merging_within zero l r = (omega arith, omega arith)
  merging_within (suc n) l r = step_within (merging m ss n) (merging_within n) l r (merge m ss l r) refl

mutual
  -- fusing a whole tree makes it no larger and no deeper
  find_within : (m : Meaning) (ss : Schemas) (e : Expr)
      → (size (find_between m ss e) ≤ size e) × (depth (find_between m ss e) ≤ depth e)
  find_within m ss (logic And a b) =
      let w =
      merging_within m ss (count_conjuncts (find_between m ss b)) (find_between m ss a) (find_between m ss b) in
      let u = find_within m ss a in
      let v = find_within m ss b in
      (omega arith, omega arith)
  find_within m ss (logic Or a b) =
      let u = find_within m ss a in
      let v = find_within m ss b in
      (omega arith, omega arith)
  find_within m ss (node f es) = let u = finds_within m ss es in (omega arith, omega arith)

  finds_within : (m : Meaning) (ss : Schemas) (es : Exprs)
      → (sizes (find_between_all m ss es) ≤ sizes es) × (depths (find_between_all m ss es) ≤ depths es)
  finds_within m ss nil = (omega arith, omega arith)
  finds_within m ss (cons e es) =
      let u = find_within m ss e in
      let v = finds_within m ss es in
      (omega arith, omega arith)

pub nothing_grows : NothingGrows
nothing_grows m law ss e =
    (λ k d h. (optimize_size m law ss k e d h, λ p. optimize_depth m ss k e d p h), find_within m ss e)
