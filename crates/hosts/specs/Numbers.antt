-- The host Numbers: abs, of code 0, and coalesce, of code 1.
use Rattle.std.specs.Prelude.{◌≡◌, ℕ, suc, ◌+◌, ◌^◌, ◌≤◌, Bool, false, cond, not, ◌&&◌, List, [], ◌∷◌, length, ℤ}
use Rattle.std.specs.Prelude.{pos, negsuc, is_some, Some, None, Option, ◌==◌, nat_le, nat_lt}
use Rattle.std.specs.List.{list_all}
use Rattle.vocabulary.specs.declared.types.DType.{DType}
use Rattle.vocabulary.specs.declared.types.Kind.TheVariants as kind
use Rattle.vocabulary.specs.Types.{alike, type_of}
use Rattle.vocabulary.specs.declared.values.Text.{Text}
use Rattle.vocabulary.specs.declared.values.Value.{Value as Placed}
use Rattle.meaning.specs.Outcomes.{value}
use Rattle.meaning.specs.HostCode.{read}
use Rattle.meaning.specs.Lists.{of_one}
use Rattle.meaning.specs.Values.{Value, null, bool, signed, unsigned, text, ext, whole, is_null}
use Rattle.meaning.specs.Hosts.{Constant, Reply, argument, plain, fails, Answer, nothing, child, Meaning, host_value}
use Rattle.hosts.specs.Kinds.{kind_to_kind}
use Rattle.hosts.specs.declared.numbers.NumberFunction.{NumberFunction}
use Rattle.hosts.specs.declared.numbers.NumberFunction.TheVariants.{Abs, Coalesce}

-- the functions by their codes
abbrev pub number_function : ℕ → Option NumberFunction
number_function c = cond (c == 0) (Some Abs) (cond (c == 1) (Some Coalesce) None)

-- how many arguments: one, or two to eight
abbrev pub numbers_takes : Option NumberFunction → ℕ → Bool
numbers_takes (Some Abs) n = n == 1
numbers_takes (Some Coalesce) n = nat_le 2 n && nat_le n 8
numbers_takes None n = false

-- abs of an I64 is an I64, nullable where its argument is
abbrev pub abs_type : DType → Option DType
abs_type t = kind_to_kind kind.I64 kind.I64 t

-- each type is alike the first
abbrev pub all_alike : DType → List DType → Bool
all_alike t ts = list_all (alike t) ts

-- each type is nullable
abbrev pub all_nullable : List DType → Bool
all_nullable ts = list_all (λ t. t.nullable) ts

-- coalesce of alike types is of their kind, nullable only where all are
abbrev pub coalesce_type : List DType → Option DType
coalesce_type [] = None
coalesce_type (t ∷ ts) = cond (all_alike t ts) (Some (type_of t.kind (all_nullable (t ∷ ts)))) None

-- the type of a call
abbrev pub numbers_types : Option NumberFunction → List DType → Option DType
numbers_types (Some Abs) ts = of_one None abs_type ts
numbers_types (Some Coalesce) ts = coalesce_type ts
numbers_types None ts = None

-- a number without its sign; the smallest I64 has none in an I64, which is the fault 1
abbrev pub abs_number : ℤ → Reply
abs_number (pos n) = plain (Constant.signed (pos n))
abs_number (negsuc n) = cond (nat_lt (suc n) (2 ^ 63)) (plain (Constant.signed (pos (suc n)))) (fails 1)

-- abs of null is null, of an I64 its number without the sign; what is no I64 is the fault 0
abbrev pub abs_reply : Value → Reply
abs_reply null = plain Constant.null
abs_reply (signed z) = abs_number z
abs_reply (bool b) = fails 0
abs_reply (unsigned n) = fails 0
abs_reply (text bs) = fails 0
abs_reply (ext e z) = fails 0
abs_reply (whole s) = fails 0

-- an argument that is not null, whatever the texts are
abbrev pub is_given : Placed Text → Bool
is_given v = not (is_null (read [] [] v))

-- the first argument that is not null, their places counted from i, or null where there is none
abbrev pub first_given : ℕ → List Value → Reply
first_given i [] = plain Constant.null
first_given i (v ∷ vs) = cond (is_null v) (first_given (i + 1) vs) (argument i)

-- the first value that is not null, or null where there is none
abbrev pub coalesced : List Value → Value
coalesced [] = null
coalesced (v ∷ vs) = cond (is_null v) (coalesced vs) v

-- coalesce of up to eight arguments is the first that is not null; of more it is the fault 0
abbrev pub coalesce_reply : List Value → Reply
coalesce_reply vs = cond (nat_le (length vs) 8) (first_given 0 vs) (fails 0)

-- what a call replies; a call that does not bind fails with 0
abbrev pub numbers_gives : Option NumberFunction → List Value → Reply
numbers_gives (Some Abs) vs = of_one (fails 0) abs_reply vs
numbers_gives (Some Coalesce) vs = coalesce_reply vs
numbers_gives None vs = fails 0

-- a first argument that is never null is the first that is not null
abbrev pub coalesce_rule : List DType → Answer
coalesce_rule [] = nothing
coalesce_rule (t ∷ ts) = cond t.nullable nothing (child 0)

-- what a call is rewritten to
abbrev pub numbers_rule : Option NumberFunction → List DType → Answer
numbers_rule (Some Abs) ts = nothing
numbers_rule (Some Coalesce) ts = coalesce_rule ts
numbers_rule None ts = nothing

-- the host
abbrev pub numbers : Meaning
numbers = record {
  has = λ c. is_some (number_function c);
  takes = λ c n. numbers_takes (number_function c) n;
  types = λ c ts. numbers_types (number_function c) ts;
  gives = λ c vs. numbers_gives (number_function c) vs;
  rule = λ c ts ls. numbers_rule (number_function c) ts;
}

-- the value of coalesce is its first argument that is not null
abbrev pub CoalesceIsTheFirst : Type 0
CoalesceIsTheFirst = (vs : List Value) → length vs ≤ 8 → host_value numbers 1 vs ≡ value (coalesced vs)
