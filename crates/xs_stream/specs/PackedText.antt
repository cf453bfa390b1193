-- Texts after their lengths.
use Rattle.std.specs.Prelude.{ℕ, List, ◌++◌, length, take, drop}
use Rattle.xs_stream.specs.PackedNumber.{number_code, first_number, after_number}

unfoldable pub text_code : List ℕ → List ℕ
text_code text = number_code (length text) ++ text

-- the text that bytes begin with
unfoldable pub first_text : List ℕ → List ℕ
first_text bytes = take (first_number bytes) (after_number bytes)

-- the bytes after it
unfoldable pub after_text : List ℕ → List ℕ
after_text bytes = drop (first_number bytes) (after_number bytes)
