-- The lines of a script, and the content of a line: a moment, a client's name, and the words of a request.
use Rattle.std.specs.Prelude.{ℕ, ◌^◌, Bool, ◌==◌, List, [], ◌∷◌, length, nat_le, nat_lt, Option, Some, None}
use Rattle.std.specs.Prelude.{option_and_then, if◌then◌else◌}
use Rattle.std.specs.Option.{option_map}
use Rattle.std.specs.List.{list_all}
use Rattle.xs_bytes.specs.Number.{natural_of}

-- a byte before the first part
abbrev pub onto_first : ℕ → List (List ℕ) → List (List ℕ)
onto_first byte [] = (byte ∷ []) ∷ []
onto_first byte (part ∷ parts) = (byte ∷ part) ∷ parts

-- LF
abbrev pub is_line_end : ℕ → Bool
is_line_end byte = byte == 10

-- the lines of a script, each ended by LF; the last may lack it
abbrev pub script_lines : List ℕ → List (List ℕ)
script_lines [] = []
script_lines (byte ∷ bytes) = if is_line_end byte then [] ∷ script_lines bytes else onto_first byte (script_lines bytes)

-- the parts of a line between its spaces
abbrev pub parts_of : List ℕ → List (List ℕ)
parts_of [] = [] ∷ []
parts_of (byte ∷ bytes) = if byte == 32 then [] ∷ parts_of bytes else onto_first byte (parts_of bytes)

-- the parts after a space, if there is one
abbrev pub parts_behind : Option (List ℕ) → List (List ℕ)
parts_behind None = []
parts_behind (Some rest) = parts_of rest

abbrev pub has_bytes : List ℕ → Bool
has_bytes part = nat_lt 0 (length part)

-- parts none of which is empty
abbrev pub full_parts : List (List ℕ) → Option (List (List ℕ))
full_parts parts = if list_all has_bytes parts then Some parts else None

-- the most bytes of a line
abbrev pub line_limit : ℕ
line_limit = 1048576

-- a moment below 2^63, without leading zeros
abbrev pub moment_of : List ℕ → Option ℕ
moment_of text = option_and_then (λ n. if nat_lt n (2 ^ 63) then Some n else None) (natural_of text)

-- a moment, a name, and one or more words
abbrev pub request_of : List (List ℕ) → Option (ℕ × List (List ℕ))
request_of [] = None
request_of (moment ∷ []) = None
request_of (moment ∷ name ∷ []) = None
request_of (moment ∷ name ∷ word ∷ words) = option_map (λ now. (now, word ∷ words)) (moment_of moment)

-- the moment and the words of a script line; None if it isn't a script line
abbrev pub line_of : List ℕ → Option (ℕ × List (List ℕ))
line_of line = if nat_le (length line) line_limit then option_and_then request_of (full_parts (parts_of line)) else None
