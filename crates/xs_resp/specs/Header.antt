-- How a header is read: a marker, a number, CR and LF.
use Rattle.std.specs.Prelude.{ℕ, ◌+◌, Bool, not, ◌==◌, List, [], ◌∷◌, length, take, slice_index, Option, Some, None, Ok}
use Rattle.std.specs.Prelude.{Err, nat_lt, nat_le, if◌then◌else◌}
use Rattle.std.specs.List.{prefix_len}
use Rattle.xs_resp.specs.declared.header.Part.{Part}
use Rattle.xs_resp.specs.declared.header.Header.{Header}
use Rattle.xs_resp.specs.declared.read_fault.ProtocolFault.TheVariants.{Length, Shape, Limit}
use Rattle.xs_resp.specs.Outcome.{Outcome}
use Rattle.xs_resp.specs.HeaderPart.{marker, limit, number_in}

abbrev pub is_not_cr : ℕ → Bool
is_not_cr byte = not (byte == 13)

-- the number of bytes before the first CR
abbrev pub text_len : List ℕ → ℕ
text_len line = prefix_len is_not_cr line

-- a header with this number, which ends at this index
abbrev pub within_limit : Part → ℕ → Option ℕ → Outcome Header
within_limit part end None = Err Length
within_limit part end (Some n) =
    if nat_lt (limit part) n then Err Limit else Ok (Some (record { number = n; end = end }))

-- a header whose marker is read, and whose first CR is at this index
unfoldable pub line_at : Part → List ℕ → ℕ → Outcome Header
line_at part line cr =
    if nat_le 30 cr then Err Limit
    else (if nat_lt (length line) (cr + 2) then Ok None
    else (if slice_index line (cr + 1) == 10 then within_limit part (cr + 3) (number_in part (take cr line))
    else Err Shape))

unfoldable pub header : Part → List ℕ → Outcome Header
header part [] = Ok None
header part (byte ∷ line) = if byte == marker part then line_at part line (text_len line) else Err Shape
