-- Typing: which expressions bind, and to which type.
use Rattle.std.specs.Prelude.{ℕ, Bool, true, false, cond, not, ◌&&◌, ◌||◌, List, [], ◌∷◌, Some, None, Option}
use Rattle.vocabulary.specs.declared.types.DType.{DType}
use Rattle.vocabulary.specs.declared.types.Kind.{Kind}
use Rattle.vocabulary.specs.declared.types.Kind.TheVariants as kind
use Rattle.vocabulary.specs.Types.{same_kind, plain_kind}
use Rattle.meaning.specs.Outcomes.{and_then}
use Rattle.meaning.specs.Lists.{of_none, of_one, of_two, of_three}
use Rattle.meaning.specs.Values.{boolean, fits}
use Rattle.meaning.specs.Hosts.{Meaning, host_type}
use Rattle.meaning.specs.Trees.{Fn, root, literal, get_item, cast, compare, compute, between, call}
use Rattle.meaning.specs.Trees.{Expr, logic, node, Exprs, nil, cons}
use Rattle.meaning.specs.Columns.{Schemas, column_type}

-- an Extension's kind
abbrev pub is_extension : Kind → Bool
is_extension kind.Bool = false
is_extension kind.I64 = false
is_extension kind.U64 = false
is_extension kind.Utf8 = false
is_extension (kind.Extension e) = true
is_extension (kind.Row s) = false

-- a kind of numbers
abbrev pub is_number : Kind → Bool
is_number kind.Bool = false
is_number kind.I64 = true
is_number kind.U64 = true
is_number kind.Utf8 = false
is_number (kind.Extension e) = false
is_number (kind.Row s) = false

-- GetItem takes a Row, and has its column's type
abbrev pub item_type : Schemas → List ℕ → Kind → Option DType
item_type ss n kind.Bool = None
item_type ss n kind.I64 = None
item_type ss n kind.U64 = None
item_type ss n kind.Utf8 = None
item_type ss n (kind.Extension e) = None
item_type ss n (kind.Row s) = column_type ss s n

-- And and Or take Bools; the Bool they give is nullable if an operand is
abbrev pub logic_type : DType → DType → Option DType
logic_type t u =
    cond (same_kind kind.Bool t.kind && same_kind kind.Bool u.kind)
    (Some (boolean (t.nullable || u.nullable)))
    None

-- a comparison takes alike types, or any two where one is an Extension
abbrev pub compare_type : DType → DType → Option DType
compare_type t u =
    cond
    ((plain_kind t.kind && plain_kind u.kind)
    && (same_kind t.kind u.kind || (is_extension t.kind || is_extension u.kind)))
    (Some (boolean (t.nullable || u.nullable)))
    None

-- an operation on numbers takes alike ones, and gives one
abbrev pub compute_type : DType → DType → Option DType
compute_type t u =
    cond (is_number t.kind && same_kind t.kind u.kind)
    (Some (record { kind = t.kind; nullable = t.nullable || u.nullable }))
    None

-- Between takes three alike types; the Bool it gives is nullable if any is
abbrev pub between_type : DType → DType → DType → Option DType
between_type t l u =
    cond
    ((plain_kind t.kind && plain_kind l.kind)
    && (plain_kind u.kind && (same_kind t.kind l.kind && same_kind t.kind u.kind)))
    (Some (boolean (t.nullable || (l.nullable || u.nullable))))
    None

-- Cast to t of an operand of type u: the kind stays, and nullability is never removed
abbrev pub cast_type : DType → DType → Option DType
cast_type t u =
    cond (plain_kind t.kind && (same_kind u.kind t.kind && (t.nullable || not u.nullable))) (Some t) None

-- the type of a node over children of those types
unfoldable pub fn_type : Meaning → Schemas → Fn → List DType → Option DType
fn_type m ss (root s) ts = of_none None (Some (record { kind = kind.Row s; nullable = false })) ts
fn_type m ss (literal t v) ts = of_none None (cond (fits v t && plain_kind t.kind) (Some t) None) ts
fn_type m ss (get_item n) ts = of_one None (λ t. item_type ss n t.kind) ts
fn_type m ss (cast t) ts = of_one None (λ u. cast_type t u) ts
fn_type m ss (compare c) ts = of_two None compare_type ts
fn_type m ss (compute o) ts = of_two None compute_type ts
fn_type m ss (between o) ts = of_three None between_type ts
fn_type m ss (call c) ts = host_type m c ts

abbrev mutual
  -- the type of an expression, if it binds
  pub typed : Meaning → Schemas → Expr → Option DType
  typed m ss (logic o a b) = and_then (typed m ss a) (λ t. and_then (typed m ss b) (λ u. logic_type t u))
  typed m ss (node f es) = and_then (typed_all m ss es) (λ ts. fn_type m ss f ts)

  -- the types of the children, if all bind
  pub typed_all : Meaning → Schemas → Exprs → Option (List DType)
  typed_all m ss nil = Some []
  typed_all m ss (cons e es) = and_then (typed m ss e) (λ t. and_then (typed_all m ss es) (λ ts. Some (t ∷ ts)))
