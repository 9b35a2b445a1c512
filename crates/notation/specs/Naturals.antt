-- Numbers in decimal digits.
use Rattle.std.specs.Prelude.{ℕ, ◌+◌, ◌-◌, ◌*◌, ◌^◌, cond, ◌&&◌, List, [], ◌∷◌, length, Some, None, Option, ◌==◌}
use Rattle.std.specs.Prelude.{nat_lt}
use Rattle.std.specs.Char.{is_ascii_digit}
use Rattle.std.specs.Str.{all_ascii_digits}

-- the number that the digits write, behind those that write `before`
abbrev pub value_from : ℕ → List ℕ → ℕ
value_from before [] = before
value_from before (d ∷ ds) = value_from (before * 10 + (d - 48)) ds

-- one more digit, where it is one and the number still has 64 bits
abbrev pub one_more : ℕ → ℕ → Option ℕ
one_more n d = cond (is_ascii_digit d && nat_lt (n * 10 + (d - 48)) (2 ^ 64)) (Some (n * 10 + (d - 48))) None

-- digits alone, and a number of 64 bits
abbrev pub natural_from : ℕ → List ℕ → Option ℕ
natural_from before ds =
    cond (all_ascii_digits ds && nat_lt (value_from before ds) (2 ^ 64)) (Some (value_from before ds)) None

-- one digit at least
abbrev pub natural : List ℕ → Option ℕ
natural ds = cond (length ds == 0) None (natural_from 0 ds)
