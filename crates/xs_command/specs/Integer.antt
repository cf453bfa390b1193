-- Whole numbers in the words of a command.
use Rattle.std.specs.Prelude.{ℕ, ◌^◌, ◌&&◌, List, [], ◌∷◌, Option, Some, None, option_and_then, nat_lt, nat_le, ◌==◌}
use Rattle.std.specs.Prelude.{if◌then◌else◌}
use Rattle.xs_bytes.specs.Number.{natural_of}
use Rattle.xs_command.specs.declared.integer.Integer.{Integer}
use Rattle.xs_command.specs.declared.integer.Integer.TheVariants.{Negative, Natural}

-- a number that isn't negative
abbrev pub positive_of : ℕ → Option Integer
positive_of n = if nat_lt n (2 ^ 63) then Some (Natural n) else None

-- the negative number of this size; 0 has no sign
abbrev pub negative_of : ℕ → Option Integer
negative_of n = if nat_lt 0 n && nat_le n (2 ^ 63) then Some Negative else None

-- the integer that a text spells: '-' is 45
abbrev pub integer_of : List ℕ → Option Integer
integer_of [] = None
integer_of (byte ∷ digits) =
    if byte == 45 then option_and_then negative_of (natural_of digits)
    else option_and_then positive_of (natural_of (byte ∷ digits))

-- the number, with 0 for one below 0
abbrev pub at_least_zero : Integer → ℕ
at_least_zero Negative = 0
at_least_zero (Natural n) = n
