-- Lines of the protocol: a marker, a number, CR and LF.
use Rattle.std.specs.Prelude.{ℕ, List, [], ◌∷◌, ◌++◌, decimal}

-- the end of a line, CR LF
abbrev pub crlf : List ℕ
crlf = 13 ∷ 10 ∷ []

-- a marker, a number and the end of the line
abbrev pub line : ℕ → ℕ → List ℕ
line marker n = marker ∷ decimal n ++ crlf
