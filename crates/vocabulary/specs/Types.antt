-- Kinds and types.
use Rattle.std.specs.Prelude.{◌≡◌, ℕ, Bool, true, false, ◌&&◌, Decides, ◌==◌, nat_le}
use Rattle.vocabulary.specs.declared.types.Kind.{Kind}
use Rattle.vocabulary.specs.declared.types.Kind.TheVariants as k
use Rattle.vocabulary.specs.declared.types.DType.{DType}

-- a kind's place among the six
abbrev pub case_of : Kind → ℕ
case_of k.Bool = 0
case_of k.I64 = 1
case_of k.U64 = 2
case_of k.Utf8 = 3
case_of (k.Extension e) = 4
case_of (k.Row s) = 5

-- the number that an Extension or a Row carries
abbrev pub carried : Kind → ℕ
carried k.Bool = 0
carried k.I64 = 0
carried k.U64 = 0
carried k.Utf8 = 0
carried (k.Extension e) = e
carried (k.Row s) = s

-- one case, carrying one number
abbrev pub same_kind : Kind → Kind → Bool
same_kind a b = case_of a == case_of b && carried a == carried b

-- types are alike when their kinds are the same
abbrev pub alike : DType → DType → Bool
alike t u = same_kind t.kind u.kind

-- alike are just the types of one kind
abbrev pub AlikeIsOneKind : Type 0
AlikeIsOneKind = (t u : DType) → Decides (alike t u) (t.kind ≡ u.kind)

-- a Row is never nullable
abbrev pub may_be_null : Kind → Bool
may_be_null k.Bool = true
may_be_null k.I64 = true
may_be_null k.U64 = true
may_be_null k.Utf8 = true
may_be_null (k.Extension e) = true
may_be_null (k.Row s) = false

-- the type of a kind at a nullability
abbrev pub type_of : Kind → Bool → DType
type_of a n = record { kind = a; nullable = n && may_be_null a }

-- a kind that a column may have: no Row, and an Extension up to 15
abbrev pub plain_kind : Kind → Bool
plain_kind k.Bool = true
plain_kind k.I64 = true
plain_kind k.U64 = true
plain_kind k.Utf8 = true
plain_kind (k.Extension e) = nat_le e 15
plain_kind (k.Row s) = false

abbrev pub is_plain : DType → Bool
is_plain t = plain_kind t.kind
