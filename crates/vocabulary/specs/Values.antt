-- Values by their places, and when a value fits a type.
use Rattle.std.specs.Prelude.{◌≡◌, ℕ, ◌+◌, Bool, nat_le}
use Rattle.vocabulary.specs.declared.types.DType.{DType}
use Rattle.vocabulary.specs.declared.types.Kind.TheVariants as k
use Rattle.vocabulary.specs.declared.values.Span.{Span}
use Rattle.vocabulary.specs.declared.values.Value.{Value}
use Rattle.vocabulary.specs.declared.values.Value.TheVariants.{Null, Bool as Truth, I64, U64, Utf8, Extension}
use Rattle.vocabulary.specs.Types.{same_kind}

-- the part ends inside a text of that length
abbrev pub is_within : Span → ℕ → Bool
is_within s n = nat_le (s.start + s.len) n

-- null fits a nullable type, any other value a type of its kind
abbrev pub fitting : {T : Type 0} → Value T → DType → Bool
fitting Null t = t.nullable
fitting (Truth b) t = same_kind t.kind k.Bool
fitting (I64 x) t = same_kind t.kind k.I64
fitting (U64 x) t = same_kind t.kind k.U64
fitting (Utf8 x) t = same_kind t.kind k.Utf8
fitting (Extension e x) t = same_kind t.kind (k.Extension e)

-- what holds of the text of a value, where it is one
abbrev pub IfText : {T : Type 0} → Value T → (T → Type 0) → Type 0
IfText Null p = Unit {0}
IfText (Truth b) p = Unit {0}
IfText (I64 x) p = Unit {0}
IfText (U64 x) p = Unit {0}
IfText (Utf8 x) p = p x
IfText (Extension e x) p = Unit {0}

-- the same value, its text one that goes with the old
abbrev pub WithText : {T U : Type 0} → (T → U → Type 0) → Value T → Value U → Type 0
WithText p Null v = v ≡ Null
WithText p (Truth b) v = v ≡ Truth b
WithText p (I64 x) v = v ≡ I64 x
WithText p (U64 x) v = v ≡ U64 x
WithText p (Utf8 x) v = (y : _) × (v ≡ Utf8 y) × p x y
WithText p (Extension e x) v = v ≡ Extension e x
