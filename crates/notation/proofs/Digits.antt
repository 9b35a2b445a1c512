-- Reading a number, a digit at a time.
use denote.Param.Members.{Mut}
use denote.Ref.{Bor}
use Rattle.std.proofs.Common.{◌≡◌, ℕ, ◌+◌, ◌-◌, ◌*◌, ◌^◌, ◌<◌, ◌≤◌, Bool, true, false, cond, ◌&&◌, eqb, ltb, List, []}
use Rattle.std.proofs.Common.{◌∷◌, length, Some, None, Option, sym, refl, ap, ◌∙◌, arith, subst}
use Rattle.std.specs.Char.{is_ascii_digit}
use Rattle.std.specs.Fn.{Called}
use Rattle.std.specs.Iterator.{YieldsThen}
use Rattle.std.specs.List.{FoldsTo}
use Rattle.std.specs.Option.{MatchOption}
use Rattle.std.specs.Str.{all_ascii_digits}
use Rattle.std.specs.declared.slice.Iter.{Iter}
use Rattle.std.proofs.lemmas.Bool.{le-ltb, lt-ltb, ltb-true, ltb-false, cond-false, cond-true}
use Rattle.std.proofs.lemmas.Fn.{fronts}
use Rattle.notation.specs.Naturals.{value_from, one_more, natural_from, natural}

-- more digits write no smaller number
value_grows : (n : ℕ) (ds : List ℕ) → n ≤ value_from n ds
value_grows n [] = omega arith
value_grows n (d ∷ ds) = omega (arith, value_grows (n * 10 + (d - 48)) ds)

-- a number that is too large already
too_large : (n : ℕ) (ds : List ℕ) (b : Bool) → ltb n (2 ^ 64) ≡ false
    → cond (b && ltb (value_from n ds) (2 ^ 64)) (Some (value_from n ds)) None ≡ None
too_large n ds true h =
    let v = value_from n ds in
    let large : 2 ^ 64 ≤ v = omega (arith, value_grows n ds, ltb-false n (2 ^ 64) h) in
    cond-false (ltb v (2 ^ 64)) (Some v) None (le-ltb v (2 ^ 64) large)
too_large n ds false h = refl

-- what the digits ds write behind n, where the digit before them was one or not, and made n
abbrev rest : Bool → ℕ → List ℕ → Option ℕ
rest b n ds = cond ((b && all_ascii_digits ds) && ltb (value_from n ds) (2 ^ 64)) (Some (value_from n ds)) None

taken : (b c : Bool) (n m : ℕ) (ds : List ℕ) → ltb n (2 ^ 64) ≡ c
    → cond (b && c) (Some n) None ≡ Some m → (m < 2 ^ 64) × (rest b n ds ≡ natural_from m ds)
taken true true n m ds h e =
    let same : n ≡ m = cc in
    (omega (arith, same, ltb-true n (2 ^ 64) h), ap (λ k. natural_from k ds) same)
taken true false n m ds h e = absurd (grind arith)
taken false c n m ds h e = absurd (grind arith)

stopped : (b c : Bool) (n : ℕ) (ds : List ℕ) → ltb n (2 ^ 64) ≡ c
    → cond (b && c) (Some n) None ≡ None → rest b n ds ≡ None
stopped true true n ds h e = absurd (grind arith)
stopped true false n ds h e = too_large n ds (all_ascii_digits ds) h
stopped false c n ds h e = refl

no_digits : (n : ℕ) (ds : List ℕ) → length ds ≡ 0 → n < 2 ^ 64 → natural_from n ds ≡ Some n
no_digits n [] h l = cond-true (ltb n (2 ^ 64)) (Some n) None (lt-ltb n (2 ^ 64) l)
no_digits n (d ∷ ds) h l = absurd (omega (arith, h))

-- a fold of a closure that puts one more digit behind a number
module _ {F : Type 0} (g : Mut F (ℕ × (Bor ℕ × Unit {0})) (Option ℕ)) (f : F)
    (k : (n : ℕ) (x : Bor ℕ) (r : Option ℕ) (q : F) → Called g f (n, (x, tt)) r q
    → (q ≡ f) × (r ≡ one_more n x.now)) where
  abbrev Turn : F × ℕ → Bor ℕ → F × ℕ → Type 0
  Turn p x q = (v : Option ℕ) × Called g p.0 (p.1, (x, tt)) v q.0 × (v ≡ Some q.1)

  abbrev Ended : Type 0 → F → ℕ → Option ℕ → Bor ℕ → Type 0
  Ended E q a r x = (v : Option ℕ) × (h : F) × (e : E) × Called g q (a, (x, tt)) v h × (v ≡ None) × (r ≡ None)

  ended : (E : Type 0) (n : ℕ) (s u : Iter ℕ) (o : Option (Bor ℕ)) (r : Option ℕ) → n < 2 ^ 64
      → fronts s o u → MatchOption o (r ≡ Some n) (Ended E f n r) → r ≡ natural_from n s.rest.now
  ended E n s u None r l y m = m ∙ sym (no_digits n s.rest.now y.0 l)
  ended E n s u (Some x) r l y (v, h, b, c, e, m) =
      let d = x.now in
      let none = sym (k n x v h c).1 ∙ e in
      m ∙ sym (stopped (is_ascii_digit d) _ (n * 10 + (d - 48)) u.rest.now refl none) ∙ ap (natural_from n) (sym y)

  pub folded : (E : Type 0) (n : ℕ) (xs : List (Bor ℕ)) (s u : Iter ℕ) (o : Option (Bor ℕ)) (q : F) (a : ℕ)
      (r : Option ℕ) → n < 2 ^ 64
      → YieldsThen fronts s xs o u → FoldsTo {P = F × ℕ} Turn (f, n) xs (q, a)
      → MatchOption o (r ≡ Some a) (Ended E q a r)
      → r ≡ natural_from n s.rest.now
  folded E n [] s u o q a r l (t, same, y) p m =
      ended E n s u o r l (subst (λ i. fronts i o u) (sym same) y)
      (subst (λ i. MatchOption o (r ≡ Some i.1) (Ended E i.0 i.1 r)) (sym p) m)
  folded E n (x ∷ xs) s u o q a r l (t, (j, y, ys), last) (i, (v, c, e), p) m =
      let d = x.now in
      let (keeps, made) = k n x v i.0 c in
      let (small, step) = taken (is_ascii_digit d) _ (n * 10 + (d - 48)) i.1 j.rest.now refl (sym made ∙ e) in
      folded E i.1 xs j u o q a r small (t, ys, last)
      (subst (λ h. FoldsTo {P = F × ℕ} Turn (h, i.1) xs (q, a)) keeps p) m
      ∙ sym step
      ∙ ap (natural_from n) (sym y)

-- of one digit at least
pub some_digits : (xs : List ℕ) → false ≡ eqb (length xs) 0 → natural_from 0 xs ≡ natural xs
some_digits xs h = sym (cond-false (eqb (length xs) 0) None (natural_from 0 xs) (sym h))
