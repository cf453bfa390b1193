-- Decimal numbers in text.
use Rattle.std.specs.Prelude.{ℕ, ◌+◌, ◌-◌, ◌*◌, ◌^◌, Bool, false, ◌&&◌, List, [], ◌∷◌, length, fold, nat_le, nat_lt}
use Rattle.std.specs.Prelude.{◌==◌, Option, Some, None, if◌then◌else◌}
use Rattle.std.specs.List.{list_all}

-- '0' to '9'
abbrev pub is_digit : ℕ → Bool
is_digit byte = nat_le 48 byte && nat_le byte 57

-- a number with one more digit
abbrev pub with_digit : ℕ → ℕ → ℕ
with_digit n byte = n * 10 + (byte - 48)

-- the value of digits
abbrev pub value_of : List ℕ → ℕ
value_of text = fold with_digit 0 text

-- not empty, and only digits
abbrev pub is_number : List ℕ → Bool
is_number text = nat_lt 0 (length text) && list_all is_digit text

-- the number below 2^64 that a text of digits spells; leading zeros are accepted
abbrev pub number_of : List ℕ → Option ℕ
number_of text = if is_number text && nat_lt (value_of text) (2 ^ 64) then Some (value_of text) else None

-- it begins with a '0' and has more bytes
abbrev pub has_leading_zero : List ℕ → Bool
has_leading_zero [] = false
has_leading_zero (byte ∷ []) = false
has_leading_zero (byte ∷ next ∷ rest) = byte == 48

-- the number below 2^64 that a text spells as numbers are printed, without leading zeros
abbrev pub natural_of : List ℕ → Option ℕ
natural_of text = if has_leading_zero text then None else number_of text
