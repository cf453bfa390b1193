-- A text that a writer takes.
use Rattle.std.specs.Prelude.{◌≡◌, ℕ, ◌⊎◌, Bool, true, List, [], ◌++◌}
use Rattle.xs_io.specs.Passing.{Passing, Appends}

-- a writer takes this text, or a part of it if it fails
abbrev pub Says : List ℕ → Passing → Passing → Bool → Type 0
Says text old new broken =
    (part rest : List ℕ) × (text ≡ part ++ rest) × Appends old new part × ((rest ≡ []) ⊎ (broken ≡ true))
