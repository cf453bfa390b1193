-- Words as a log has them: escaped, so that no byte is zero.
use Rattle.std.specs.Prelude.{ℕ, ◌==◌, List, [], ◌∷◌, ◌++◌, if◌then◌else◌}

-- 0 is written as 1 1, and 1 as 1 2
abbrev pub escape : ℕ → List ℕ
escape byte = if byte == 0 then 1 ∷ 1 ∷ [] else (if byte == 1 then 1 ∷ 2 ∷ [] else byte ∷ [])

abbrev pub escaped : List ℕ → List ℕ
escaped [] = []
escaped (byte ∷ word) = escape byte ++ escaped word
