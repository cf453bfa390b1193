-- CRC-32C (RFC 3720, section 12.1): the remainder of the bytes, as a polynomial over two elements, by Castagnoli's
-- polynomial 11EDC6F41. Numbers have the bits of a polynomial in reversed order: a shift to the right multiplies by x.
use Rattle.std.specs.Prelude.{ℕ, zero, suc, ◌+◌, ◌/◌, ◌*◌, ◌%◌, ◌^◌, ◌==◌, Bool, true, ◌&&◌, List, [], ◌∷◌, fold}
use Rattle.std.specs.Int.Bits.{bit_xor}

-- the polynomial without its greatest power, 82F63B78
abbrev pub polynomial : ℕ
polynomial = 2197175160

-- times x: if the greatest power comes out, the polynomial is taken away
abbrev pub shifted : ℕ → ℕ
shifted remainder = bit_xor (remainder / 2) (polynomial * (remainder % 2))

-- times x, this many times
abbrev pub shifts : ℕ → ℕ → ℕ
shifts zero remainder = remainder
shifts (suc n) remainder = shifts n (shifted remainder)

-- the remainder with one byte more
unfoldable pub with_byte : ℕ → ℕ → ℕ
with_byte remainder byte = shifts 8 (bit_xor remainder byte)

-- it begins with all bits set, and its 32 bits are inverted at the end
unfoldable pub crc32c : List ℕ → ℕ
crc32c bytes = bit_xor (fold with_byte 4294967295 bytes) 4294967295 % 2 ^ 32

-- a table of the remainders of bytes, from one on
abbrev pub is_table : ℕ → List ℕ → Bool
is_table from [] = true
is_table from (entry ∷ table) = (entry == shifts 8 from) && is_table (from + 1) table
