-- The two kinds of header: the number of words of a request, and the size of a word.
use Rattle.std.specs.Prelude.{ℕ, Bool, false, ◌&&◌, not, ◌==◌, List, length, slice_index, Option, Some, None}
use Rattle.std.specs.Prelude.{if◌then◌else◌}
use Rattle.xs_bytes.specs.Number.{is_number, has_leading_zero, value_of}
use Rattle.xs_resp.specs.declared.header.Part.{Part}
use Rattle.xs_resp.specs.declared.header.Part.TheVariants.{Count, Size}

-- the byte that a header begins with
abbrev pub marker : Part → ℕ
marker Count = 42
marker Size = 36

-- the greatest number of words, and the greatest size of a word
abbrev pub limit : Part → ℕ
limit Count = 1048576
limit Size = 536870912

-- 0, or a digit from 1 to 9 and further digits
unfoldable pub is_natural : List ℕ → Bool
is_natural text = is_number text && not (has_leading_zero text)

-- the text -1
abbrev pub is_minus_one : List ℕ → Bool
is_minus_one text = (length text == 2) && (slice_index text 0 == 45) && (slice_index text 1 == 49)

-- a request of -1 words has none
abbrev pub is_null : Part → List ℕ → Bool
is_null Count text = is_minus_one text
is_null Size text = false

-- the number that a header's text spells, if it is one
unfoldable pub number_in : Part → List ℕ → Option ℕ
number_in part text = if is_null part text then Some 0 else (if is_natural text then Some (value_of text) else None)
