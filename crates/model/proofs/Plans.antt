-- What a plan that is granted has passed, and that plans say what they record.
use Rattle.std.proofs.Common.{◌≡◌, ℕ, suc, ◌+◌, ◌<◌, ◌≤◌, Bool, true, false, cond, ◌&&◌, ltb, leb, List, []}
use Rattle.std.proofs.Common.{◌++◌, length, Some, None, Ok, Err, Option, Result, sym, refl, ap, subst, append-nil}
use Rattle.std.proofs.Common.{arith, length-append}
use Rattle.std.proofs.lemmas.Bool.{leb-true, ltb-true, and_parts}
use Rattle.std.proofs.lemmas.Option.{same_Some, cond_some}
use Rattle.vocabulary.specs.declared.nodes.Function.{Function}
use Rattle.vocabulary.specs.declared.nodes.Function.TheVariants.{Root, Literal, GetItem, Cast, Binary, Between, Host}
use Rattle.vocabulary.specs.Nodes.{BoundNode as Node}
use Rattle.vocabulary.specs.declared.refusals.Refusal.{Refusal}
use Rattle.vocabulary.specs.declared.types.DType.{DType}
use Rattle.vocabulary.specs.declared.types.Kind.{Kind}
use Rattle.vocabulary.specs.declared.types.Kind.TheVariants as kind
use Rattle.vocabulary.specs.Nodes.{text_of, text_of_value}
use Rattle.vocabulary.specs.Types.{same_kind, plain_kind, carried}
use Rattle.meaning.specs.Columns.{Schemas}
use Rattle.meaning.specs.HostCode.{read}
use Rattle.meaning.specs.Hosts.{Meaning}
use Rattle.meaning.specs.Trees.{Fn}
use Rattle.meaning.specs.Typing.{fn_type}
use Rattle.meaning.specs.Values.{Value, null, bool, signed, unsigned, text, ext, whole, fits}
use Rattle.meaning.specs.Comparing.{value_bytes}
use Rattle.meaning.proofs.CaseSplits.{false_true, of_none_some}
use Rattle.model.specs.Stores.{Store}
use Rattle.model.specs.Shapes.{over, head_of}
use Rattle.model.specs.Wanted.{New, root, literal, get_item, cast, binary, between, host}
use Rattle.model.specs.Wanted.{placed_behind}
use Rattle.model.specs.Making.{Plan, named, looked_up, check, head_known, head_counts, head_type, types_of}
use Rattle.model.specs.Making.{deepest, total_size, new_record, bound, over_children, build, new_plan}
use Rattle.model.specs.Rebuilding.{old_plan}
use Rattle.model.specs.Soundness.{EndsWithin, SoundNode}
use Rattle.model.proofs.Children.{err_ok, ok_same}
use Rattle.model.proofs.Texts.{part_behind}

-- a test that was passed
pub checked : (b : Bool) (r : Refusal) (next : Result Node Refusal) (x : Node) → check b r next ≡ Ok x
    → (b ≡ true) × (next ≡ Ok x)
checked true r next x e = (refl, e)
checked false r next x e = err_ok r x e

-- what a granted plan has passed
pub record Built (m : Meaning) (p : Plan) (s : Store) (x : Node) : Type 0 where
  pub records : List Node
  pub type : DType
  pub there : looked_up s (named p.children p.count) ≡ Ok records
  pub known : head_known m p.head ≡ true
  pub counted : head_counts m p.head p.count ≡ true
  pub binds : head_type m s.schemas p.head (types_of records) ≡ Some type
  pub shallow : suc (deepest records) ≤ 256
  pub small : suc (total_size records) ≤ 4096
  pub room : length s.nodes < s.records
  pub text_room : length s.text + length p.adds ≤ s.bytes
  pub is : x ≡ new_record p type records

pub built : (m : Meaning) (p : Plan) (s : Store) (x : Node) → build m p s ≡ Ok x → Built m p s x
unfolding build
built m p s x e = children (looked_up s (named p.children p.count)) refl e
  where
    typed : (xs : List Node) → looked_up s (named p.children p.count) ≡ Ok xs
        → head_known m p.head ≡ true → head_counts m p.head p.count ≡ true
        → (o : Option DType) → head_type m s.schemas p.head (types_of xs) ≡ o
        → bound p s xs o ≡ Ok x → Built m p s x
    typed xs a b c None d h = err_ok _ x h
    typed xs a b c (Some t) d h =
        let (deep, h2) = checked (leb (suc (deepest xs)) 256) _ _ x h in
        let (large, h3) = checked (leb (suc (total_size xs)) 4096) _ _ x h2 in
        let (room, h4) = checked (ltb (length s.nodes) s.records) _ _ x h3 in
        let (bytes, h5) = checked (leb (length s.text + length p.adds) s.bytes) _ _ x h4 in
        record {
          records = xs;
          type = t;
          there = a;
          known = b;
          counted = c;
          binds = d;
          shallow = leb-true (suc (deepest xs)) 256 deep;
          small = leb-true (suc (total_size xs)) 4096 large;
          room = ltb-true (length s.nodes) s.records room;
          text_room = leb-true (length s.text + length p.adds) s.bytes bytes;
          is = sym (ok_same h5);
        }

    children : (r : Result (List Node) ℕ) → looked_up s (named p.children p.count) ≡ r
        → over_children m p s r ≡ Ok x → Built m p s x
    children (Err k) a h = err_ok _ x h
    children (Ok xs) a h =
        let (b, h2) = checked (head_known m p.head) _ _ x h in
        let (c, h3) = checked (head_counts m p.head p.count) _ _ x h2 in
        typed xs a b c (head_type m s.schemas p.head (types_of xs)) refl h3

-- a plan's function, recorded with the type that it has, computes what the plan says
pub record Honest (m : Meaning) (p : Plan) (s : Store) : Type 0 where
  pub computes :
      (t : DType) (ts : List DType) → head_type m s.schemas p.head ts ≡ Some t
      → head_of (s.text ++ p.adds) t p.function ≡ p.head
  pub ends : EndsWithin (s.text ++ p.adds) (text_of p.function)

-- no row is a literal
no_rows : (r : ℕ) (k : Kind) → same_kind (kind.Row r) k ≡ true → plain_kind k ≡ true → false ≡ true
no_rows r kind.Bool a b = a
no_rows r kind.I64 a b = a
no_rows r kind.U64 a b = a
no_rows r kind.Utf8 a b = a
no_rows r (kind.Extension e) a b = a
no_rows r (kind.Row q) a b = b

root_typed : (m : Meaning) (ss : Schemas) (r : ℕ) (ts : List DType) (t : DType)
    → fn_type m ss (Fn.root r) ts ≡ Some t → carried t.kind ≡ r
unfolding fn_type
root_typed m ss r ts t e =
    let (_, h) = of_none_some (Some (record { kind = kind.Row r; nullable = false })) ts t e in
    ap (λ (z : DType). carried z.kind) (sym (same_Some _ _ h))

row_typed : (m : Meaning) (ss : Schemas) (u : DType) (r : ℕ) (ts : List DType) (t : DType)
    → fn_type m ss (Fn.literal u (whole r)) ts ≡ Some t → false ≡ true
unfolding fn_type
row_typed m ss u r ts t e =
    let (_, h) = of_none_some (cond (fits (whole r) u && plain_kind u.kind) (Some u) None) ts t e in
    let (a, same) = cond_some (fits (whole r) u && plain_kind u.kind) u t h in
    let (b, c) = and_parts (fits (whole r) u) (plain_kind u.kind) a in
    no_rows r u.kind b c

module _ (m : Meaning) (s : Store) where
  literal_read : (t : DType) (v : Value) (u : DType) (ts : List DType)
      → fn_type m s.schemas (Fn.literal t v) ts ≡ Some u
      → read (s.text ++ value_bytes v) [] (placed_behind s.text v) ≡ v
  literal_read t null u ts e = refl
  literal_read t (bool b) u ts e = refl
  literal_read t (signed z) u ts e = refl
  literal_read t (unsigned n) u ts e = refl
  literal_read t (text bs) u ts e = ap text (part_behind s.text bs)
  literal_read t (ext k z) u ts e = refl
  literal_read t (whole r) u ts e = false_true (row_typed m s.schemas t r ts u e)

  literal_ends : (v : Value) → EndsWithin (s.text ++ value_bytes v) (text_of_value (placed_behind s.text v))
  literal_ends null = tt
  literal_ends (bool b) = tt
  literal_ends (signed z) = tt
  literal_ends (unsigned n) = tt
  literal_ends (text bs) = simp length-append (omega arith)
  literal_ends (ext k z) = tt
  literal_ends (whole r) = tt

  pub new_honest : (w : New) (cs : List ℕ) (n : ℕ) → Honest m (new_plan w cs n s) s
  new_honest (root r) cs n = record {
    computes = λ t ts e. ap (λ (z : ℕ). over (Fn.root z)) (root_typed m s.schemas r ts t e);
    ends = tt;
  }
  new_honest (literal t v) cs n = record {
    computes = λ u ts e. ap (λ (z : Value). over (Fn.literal t z)) (literal_read t v u ts e);
    ends = literal_ends v;
  }
  new_honest (get_item name) cs n = record {
    computes = λ t ts e. ap (λ (z : List ℕ). over (Fn.get_item z)) (part_behind s.text name);
    ends = simp length-append (omega arith);
  }
  new_honest (cast t) cs n = record { computes = λ u ts e. refl; ends = tt }
  new_honest (binary o) cs n = record { computes = λ u ts e. refl; ends = tt }
  new_honest (between o) cs n = record { computes = λ u ts e. refl; ends = tt }
  new_honest (host c) cs n = record { computes = λ u ts e. refl; ends = tt }

  -- the type that a function is recorded with matters to a Root alone
  head_again : (f : Function) (t u : DType) (ts : List DType)
      → head_type m s.schemas (head_of s.text t f) ts ≡ Some u
      → head_of (s.text ++ []) u f ≡ head_of s.text t f
  head_again Root t u ts e =
      ap (λ (z : ℕ). over (Fn.root z)) (root_typed m s.schemas (carried t.kind) ts u e)
  head_again (Literal w v) t u ts e = rw append-nil refl
  head_again (GetItem name) t u ts e = rw append-nil refl
  head_again (Cast w) t u ts e = refl
  head_again (Binary o) t u ts e = refl
  head_again (Between o) t u ts e = refl
  head_again (Host c) t u ts e = refl

  pub old_honest : (k : ℕ) (x : Node) (cs : List ℕ) (n : ℕ) → SoundNode m s k x → Honest m (old_plan k x cs n s) s
  old_honest k x cs n sound = record {
    computes = λ t ts e. head_again x.function x.dtype t ts e;
    ends = subst (λ (z : List ℕ). EndsWithin z (text_of x.function)) (sym (append-nil s.text)) sound.ends;
  }
