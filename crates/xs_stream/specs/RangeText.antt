-- The ends of a range in words. (Redis, XRANGE: "special IDs", "incomplete IDs", "exclusive ranges".)
use Rattle.std.specs.Prelude.{ℕ, List, [], ◌∷◌, ◌==◌, Option, Some, option_and_then, if◌then◌else◌}
use Rattle.std.specs.Option.{option_map}
use Rattle.xs_stream.specs.declared.id.Id.{Id}
use Rattle.xs_stream.specs.declared.range.Range.{Range}
use Rattle.xs_stream.specs.Id.{zero_id, greatest_id, greatest_number}
use Rattle.xs_stream.specs.IdText.{parse_id, next_id, previous_id}

-- an end that begins with this byte: `-`, `+`, or `(` and an id whose neighbour is meant
abbrev pub marked_end : ℕ → List ℕ → ℕ → (Id → Option Id) → Option Id
marked_end byte rest missing neighbour =
    if byte == 40 then option_and_then neighbour (parse_id rest missing) else parse_id (byte ∷ rest) missing

-- an end of one byte
abbrev pub short_end : ℕ → ℕ → (Id → Option Id) → Option Id
short_end byte missing neighbour =
    if byte == 45 then Some zero_id else (if byte == 43 then Some greatest_id else marked_end byte [] missing neighbour)

-- an end, given the missing sequence and the neighbour that `(` means
abbrev pub end_of : ℕ → (Id → Option Id) → List ℕ → Option Id
end_of missing neighbour [] = parse_id [] missing
end_of missing neighbour (byte ∷ []) = short_end byte missing neighbour
end_of missing neighbour (byte ∷ next ∷ rest) = marked_end byte (next ∷ rest) missing neighbour

abbrev pub low_end : List ℕ → Option Id
low_end text = end_of 0 next_id text

abbrev pub high_end : List ℕ → Option Id
high_end text = end_of greatest_number previous_id text

abbrev pub range_between : Option Id → Option Id → Option Range
range_between low high = option_and_then (λ l. option_map (λ h. record { low = l; high = h }) high) low
