-- Parts of a text: bytes behind it change none, and what is appended is read again.
use Rattle.std.proofs.Common.{◌≡◌, ℕ, ◌+◌, ◌≤◌, cond, eqb, List, [], ◌∷◌, ◌++◌, length, take, drop, Some, None}
use Rattle.std.proofs.Common.{Option, refl, ap, ◌∙◌, arith, length-append, length-drop}
use Rattle.std.proofs.lemmas.List.{take-append-le, drop-append-le, drop_at, take_all}
use Rattle.vocabulary.specs.declared.nodes.Function.{Function}
use Rattle.vocabulary.specs.declared.nodes.Function.TheVariants.{Root, Literal, GetItem, Cast, Binary, Between, Host}
use Rattle.vocabulary.specs.Nodes.{BoundNode as Node}
use Rattle.vocabulary.specs.declared.types.DType.{DType}
use Rattle.vocabulary.specs.declared.values.Span.{Span}
use Rattle.vocabulary.specs.declared.values.Text.{Text}
use Rattle.vocabulary.specs.declared.values.Text.TheVariants.{Arena, Row}
use Rattle.vocabulary.specs.declared.values.Value.{Value as Placed}
use Rattle.vocabulary.specs.declared.values.Value.TheVariants as placed
use Rattle.vocabulary.specs.Nodes.{text_of, text_of_value}
use Rattle.meaning.specs.HostCode.{part, read}
use Rattle.meaning.specs.Trees.{Fn, Expr}
use Rattle.meaning.specs.Values.{Value, text}
use Rattle.model.specs.Shapes.{Head, over, head_of, shape, shaped, kids, tree_among, shape_tree}
use Rattle.model.specs.Wanted.{behind}
use Rattle.model.specs.Soundness.{EndsWithin}
use Rattle.model.proofs.Numbers.{shapes_same}

-- each record's text lies inside the text
abbrev pub AllWithin : List ℕ → List Node → Type 0
AllWithin all [] = Unit {0}
AllWithin all (x ∷ xs) = EndsWithin all (text_of x.function) × AllWithin all xs

module _ (all more : List ℕ) where
  pub part_kept : (p : Span) → p.start + p.len ≤ length all → part (all ++ more) p ≡ part all p
  part_kept p h =
      let a : p.start ≤ length all = omega arith in
      let b : p.len ≤ length (drop p.start all) = simp length-drop (omega arith) in
      ap (take p.len) (drop-append-le p.start all more a)
      ∙ take-append-le p.len (drop p.start all) more b

  pub read_kept : (v : Placed Text) → EndsWithin all (text_of_value v) → read (all ++ more) [] v ≡ read all [] v
  read_kept placed.Null h = refl
  read_kept (placed.Bool b) h = refl
  read_kept (placed.I64 z) h = refl
  read_kept (placed.U64 n) h = refl
  read_kept (placed.Utf8 (Arena p)) h = ap text (part_kept p h)
  read_kept (placed.Utf8 (Row p)) h = refl
  read_kept (placed.Extension e z) h = refl

  -- what a node computes does not change
  pub head_kept : (t : DType) (f : Function) → EndsWithin all (text_of f)
      → head_of (all ++ more) t f ≡ head_of all t f
  head_kept t Root h = refl
  head_kept t (Literal u v) h = ap (λ (w : Value). over (Fn.literal u w)) (read_kept v h)
  head_kept t (GetItem p) h = ap (λ (w : List ℕ). over (Fn.get_item w)) (part_kept p h)
  head_kept t (Cast u) h = refl
  head_kept t (Binary o) h = refl
  head_kept t (Between o) h = refl
  head_kept t (Host c) h = refl

  pub ends_more : (o : Option Span) → EndsWithin all o → EndsWithin (all ++ more) o
  ends_more None h = tt
  ends_more (Some p) h = simp length-append (omega arith)

  -- the bytes appended are read again
  pub part_behind : part (all ++ more) (behind all more) ≡ more
  part_behind = ap (take (length more)) (drop_at all more (length all) refl) ∙ take_all (length more) more (omega arith)

  -- no tree changes
  pub tree_kept : (xs : List Node) → AllWithin all xs → (n : ℕ)
      → tree_among (all ++ more) xs n ≡ tree_among all xs n
  unfolding tree_among
  tree_kept [] w n = refl
  tree_kept (x ∷ xs) w n =
      let new : ℕ → Expr = tree_among (all ++ more) xs in
      let old : ℕ → Expr = tree_among all xs in
      let same : shape_tree new (shape (all ++ more) x) ≡ shape_tree old (shape all x) =
      ap (λ (h : Head). shape_tree new (shaped h (kids x))) (head_kept x.dtype x.function w.0)
      ∙ shapes_same new old (tree_kept xs w.1) (shape all x) in
      ap (λ (e : Expr). cond (eqb n (length xs)) e (new n)) same
      ∙ ap (λ (e : Expr). cond (eqb n (length xs)) (shape_tree old (shape all x)) e) (tree_kept xs w.1 n)
