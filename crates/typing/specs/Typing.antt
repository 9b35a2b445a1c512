-- The type of a node that is asked for: codes, counts and types.
use Rattle.std.specs.Prelude.{ℕ, Bool, true, false, cond, ◌&&◌, List, Some, None, Ok, Err, Option, Result, ◌==◌}
use Rattle.std.specs.Prelude.{nat_le}
use Rattle.std.specs.Option.{ok_or}
use Rattle.vocabulary.specs.declared.operators.Family.{Family}
use Rattle.vocabulary.specs.declared.operators.Family.TheVariants.{Compare, Connect, Compute}
use Rattle.vocabulary.specs.declared.operators.Operator.{Operator}
use Rattle.vocabulary.specs.declared.refusals.BindingRefusal.{BindingRefusal}
use Rattle.vocabulary.specs.declared.refusals.BindingRefusal.TheVariants.{NoSuchCode, WrongChildCount, DoesNotBind}
use Rattle.vocabulary.specs.declared.types.DType.{DType}
use Rattle.vocabulary.specs.declared.types.Kind.TheVariants as kind
use Rattle.vocabulary.specs.Operators.{family_of}
use Rattle.vocabulary.specs.Types.{plain_kind}
use Rattle.meaning.specs.Columns.{Schemas}
use Rattle.meaning.specs.Hosts.{Meaning, host_type}
use Rattle.meaning.specs.Lists.{of_none, of_one, of_two, of_three}
use Rattle.meaning.specs.Typing.{item_type, logic_type, compare_type, compute_type, between_type, cast_type}
use Rattle.meaning.specs.Values.{Value, fits}
use Rattle.model.specs.Unbound.{rows}
use Rattle.model.specs.UnboundMaking.{any_host}
use Rattle.model.specs.Wanted.{New, root, literal, get_item, cast, binary, between, host}

-- the type of a node that is asked for, over so many children of those types, or the refusal at that place
abbrev pub Typing : Type 0
Typing = ℕ → New → ℕ → List DType → Result DType BindingRefusal

-- a call is of a code that the host has
abbrev pub asked_known : Meaning → New → Bool
asked_known m (root s) = true
asked_known m (literal t v) = true
asked_known m (get_item name) = true
asked_known m (cast t) = true
asked_known m (binary o) = true
asked_known m (between o) = true
asked_known m (host c) = m.has c

-- the function takes so many children
abbrev pub asked_counts : Meaning → New → ℕ → Bool
asked_counts m (root s) n = n == 0
asked_counts m (literal t v) n = n == 0
asked_counts m (get_item name) n = n == 1
asked_counts m (cast t) n = n == 1
asked_counts m (binary o) n = n == 2
asked_counts m (between o) n = n == 3
asked_counts m (host c) n = nat_le n 8 && m.takes c n

-- the type of an operator of that family over two operands
abbrev pub type_in : Family → DType → DType → Option DType
type_in (Compare c) t u = compare_type t u
type_in (Connect o) t u = logic_type t u
type_in (Compute a) t u = compute_type t u

-- the type of an operator over two operands
abbrev pub family_type : Operator → DType → DType → Option DType
family_type o t u = type_in (family_of o) t u

-- the type of a literal
abbrev pub literal_type : DType → Value → Option DType
literal_type t v = cond (fits v t && plain_kind t.kind) (Some t) None

-- the type of the function over children of those types
abbrev pub asked_type : Meaning → Schemas → New → List DType → Option DType
asked_type m ss (root s) ts = of_none None (Some (record { kind = kind.Row s; nullable = false })) ts
asked_type m ss (literal t v) ts = of_none None (literal_type t v) ts
asked_type m ss (get_item name) ts = of_one None (λ t. item_type ss name t.kind) ts
asked_type m ss (cast t) ts = of_one None (λ u. cast_type t u) ts
asked_type m ss (binary o) ts = of_two None (family_type o) ts
asked_type m ss (between o) ts = of_three None between_type ts
asked_type m ss (host c) ts = host_type m c ts

-- against schemas and a host: the code, the count, then the types
abbrev pub bound_typing : Meaning → Schemas → Typing
bound_typing m ss place w n ts =
    cond (asked_known m w)
    (cond (asked_counts m w n) (ok_or (asked_type m ss w ts) (DoesNotBind place)) (Err (WrongChildCount place)))
    (Err (NoSuchCode place))

-- of an unbound node: the count alone
abbrev pub counted_only : Typing
counted_only place w n ts = cond (asked_counts any_host w n) (Ok (rows 0)) (Err (WrongChildCount place))
