-- Values, and when a value fits a type.
use Rattle.std.specs.Prelude.{ℕ, ◌^◌, Bool, true, false, ◌&&◌, List, [], ◌∷◌, length, ℤ, pos, negsuc, nat_lt}
use Rattle.vocabulary.specs.declared.types.DType.{DType}
use Rattle.vocabulary.specs.declared.types.Kind.{Kind}
use Rattle.vocabulary.specs.declared.types.Kind.TheVariants as kind
use Rattle.vocabulary.specs.Types.{same_kind}

-- a value of any kind, or null
pub data Value : Type 0 where
  null : Value
  bool : Bool → Value
  signed : ℤ → Value
  unsigned : ℕ → Value
  -- a text, by its bytes
  text : List ℕ → Value
  -- the number of an Extension, and its value
  ext : ℕ → ℤ → Value
  -- the whole row of a schema, which only a GetItem reads
  whole : ℕ → Value

-- the type Bool, nullable or not
abbrev pub boolean : Bool → DType
boolean n = record { kind = kind.Bool; nullable = n }

-- whether it is null
abbrev pub is_null : Value → Bool
is_null null = true
is_null (bool b) = false
is_null (signed z) = false
is_null (unsigned n) = false
is_null (text bs) = false
is_null (ext e z) = false
is_null (whole s) = false

-- the kind of a value; null, which has every kind, counts as a Bool here
abbrev pub kind_of : Value → Kind
kind_of null = kind.Bool
kind_of (bool b) = kind.Bool
kind_of (signed z) = kind.I64
kind_of (unsigned n) = kind.U64
kind_of (text bs) = kind.Utf8
kind_of (ext e z) = kind.Extension e
kind_of (whole s) = kind.Row s

-- a number of 64 bits, signed
abbrev pub in_i64 : ℤ → Bool
in_i64 (pos n) = nat_lt n (2 ^ 63)
in_i64 (negsuc n) = nat_lt n (2 ^ 63)

-- null fits a nullable type, any other value a type of its kind that has room for it
abbrev pub fits : Value → DType → Bool
fits null t = t.nullable
fits (bool b) t = same_kind kind.Bool t.kind
fits (signed z) t = same_kind kind.I64 t.kind && in_i64 z
fits (unsigned n) t = same_kind kind.U64 t.kind && nat_lt n (2 ^ 64)
fits (text bs) t = same_kind kind.Utf8 t.kind && nat_lt (length bs) (2 ^ 64)
fits (ext e z) t = same_kind (kind.Extension e) t.kind && in_i64 z
fits (whole s) t = same_kind (kind.Row s) t.kind

-- as many values as types, each fitting its own
abbrev pub all_fit : List Value → List DType → Bool
all_fit [] [] = true
all_fit [] (t ∷ ts) = false
all_fit (v ∷ vs) [] = false
all_fit (v ∷ vs) (t ∷ ts) = fits v t && all_fit vs ts
