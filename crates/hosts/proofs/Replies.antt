-- What coalesce replies, by the place of the first argument that is not null.
use Rattle.std.proofs.Common.{◌≡◌, ℕ, ◌+◌, ◌≤◌, cond, List, [], ◌∷◌, length, Option, Some, None}
use Rattle.std.proofs.Common.{refl, arith, nat_lt, position}
use Rattle.std.specs.List.{position_or_len}
use lib.ListN.{length-map}
use Rattle.vocabulary.specs.declared.values.Text.{Text}
use Rattle.vocabulary.specs.declared.values.Value.{Value as Placed}
use Rattle.vocabulary.specs.declared.values.Value.TheVariants as placed
use Rattle.meaning.specs.Hosts.{Constant, Reply, plain, argument}
use Rattle.meaning.specs.HostCode.{read, read_all}
use Rattle.hosts.specs.Numbers.{first_given, coalesce_reply, is_given}

-- the first that is given, of arguments whose places are counted from i
given_from : (arena row : List ℕ) (args : List (Placed Text)) (i : ℕ)
    → first_given i (read_all arena row args)
    ≡ cond (nat_lt (position_or_len is_given args) (length args)) (argument (i + position_or_len is_given args))
    (plain Constant.null)
given_from arena row [] i = refl
given_from arena row (placed.Null ∷ args) i = grind (arith, given_from arena row args (i + 1))
given_from arena row (placed.Bool b ∷ args) i = grind arith
given_from arena row (placed.I64 z ∷ args) i = grind arith
given_from arena row (placed.U64 n ∷ args) i = grind arith
given_from arena row (placed.Utf8 t ∷ args) i = grind arith
given_from arena row (placed.Extension e z ∷ args) i = grind arith

-- the reply to up to eight arguments
abbrev pub reply_at : Option ℕ → Reply
reply_at None = plain Constant.null
reply_at (Some place) = argument place

pub replied : (arena row : List ℕ) (args : List (Placed Text)) (place : Option ℕ)
    → length args ≤ 8 → place ≡ position is_given args → reply_at place ≡ coalesce_reply (read_all arena row args)
replied arena row args place few at =
    rw at (grind (arith, given_from arena row args 0, length-map args (read arena row)))
