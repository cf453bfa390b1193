-- Options of a command, in any order; the last of a repeated one counts.
use Rattle.std.specs.Prelude.{ℕ, zero, suc, List, [], ◌∷◌, length, Option, Some, None, Result, Ok, Err}
use Rattle.xs_resp.specs.declared.fault.Fault.{Fault}
use Rattle.xs_command.specs.Words.{Reading, Part}

-- a name as an option, after the options before it: the new state and the words after the option, or None in the place
-- of those words if the name isn't an option
abbrev pub OptionOf : Type 0 → Type 0
OptionOf S = S → List ℕ → Reading (S × Option (List (List ℕ)))

-- an option that was read completely
abbrev pub with_words_behind :
    {S : Type 0} → Result (S × List (List ℕ)) Fault → Result (S × Option (List (List ℕ))) Fault
with_words_behind (Ok read) = Ok (read.0, Some read.1)
with_words_behind (Err fault) = Err fault

-- the option takes this part
abbrev pub option_with : {S : Type 0} → Part S → Reading (S × Option (List (List ℕ)))
option_with part words = with_words_behind (part words)

-- how options go on after a name: after an option, or at the words if it wasn't one
abbrev pub option_after :
    {S : Type 0} → Result (S × Option (List (List ℕ))) Fault → List (List ℕ) → (S → Part S)
    → Result (S × List (List ℕ)) Fault
option_after (Err fault) words more = Err fault
option_after (Ok (s, None)) words more = Ok (s, words)
option_after (Ok (s, Some left)) words more = more s left

-- as many options as there are, at most n
unfoldable pub up_to : {S : Type 0} → ℕ → OptionOf S → S → Part S
up_to zero option s words = Ok (s, words)
up_to (suc n) option s [] = Ok (s, [])
up_to (suc n) option s (name ∷ words) =
    option_after (option s name words) (name ∷ words) (λ t left. up_to n option t left)

-- as many options as there are
abbrev pub many : {S : Type 0} → OptionOf S → S → Part S
many option s words = up_to (length words) option s words
