-- The error for an unknown command names it, with the words after it, as a real Redis 7.0 words and cuts it. Control
-- bytes are shown by their numbers, so the text has no line end.
use Rattle.std.specs.Prelude.{ℕ, ◌+◌, ◌-◌, ◌/◌, ◌%◌, ◌||◌, ◌==◌, nat_lt, List, [], ◌∷◌, ◌++◌, length, take, codes, if◌then◌else◌}
use Rattle.std.specs.List.{flat_map}

-- a hexadecimal digit
abbrev pub hex_digit : ℕ → ℕ
hex_digit n = if nat_lt n 10 then 48 + n else 87 + n

-- a control byte as \x and two digits; any other as it is
abbrev pub escaped_byte : ℕ → List ℕ
escaped_byte byte =
    if nat_lt byte 32 || byte == 127 then 92 ∷ 120 ∷ hex_digit (byte / 16) ∷ hex_digit (byte % 16) ∷ []
    else byte ∷ []

abbrev pub escaped : List ℕ → List ℕ
escaped bytes = flat_map escaped_byte bytes

-- a word in quotes, and a space
abbrev pub quoted : List ℕ → List ℕ
quoted word = 39 ∷ escaped word ++ (39 ∷ 32 ∷ [])

-- the words in quotes, cut if they reach 128 bytes
unfoldable pub arguments : ℕ → List (List ℕ) → List ℕ
arguments used [] = []
arguments used (w ∷ words) =
    if nat_lt used 128
    then quoted (take (128 - used) w) ++ arguments (used + (length (take (128 - used) w) + 3)) words
    else []

abbrev pub unknown_text : List (List ℕ) → List ℕ
unknown_text [] = codes "ERR unknown command"
unknown_text (w ∷ words) =
    codes "ERR unknown command '" ++ (escaped (take 128 w)
    ++ (codes "', with args beginning with: " ++ arguments 0 words))
