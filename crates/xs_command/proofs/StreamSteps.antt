-- Reading keys with their starts one after the other, as a loop does.
use Rattle.std.proofs.Common.{◌≡◌, ℕ, List, [], ◌∷◌, ◌++◌, Result, Ok, Err, refl, sym, ap, ◌∙◌, append_assoc}
use Rattle.std.proofs.lemmas.List.{append-nil}
use Rattle.xs_resp.specs.declared.fault.Fault.{Fault}
use Rattle.xs_command.specs.declared.command.ReadFrom.{ReadFrom}
use Rattle.xs_command.specs.declared.command.ReadOne.{ReadOne}
use Rattle.xs_command.specs.Streams.{read_from, before, read_before, each_from}

-- what was read before, and what is still read
abbrev pub with_front : List ReadOne → Result (List ReadOne) Fault → Result (List ReadOne) Fault
with_front front (Ok reads) = Ok (front ++ reads)
with_front front (Err fault) = Err fault

regroup : (front : List ReadOne) (first : ReadOne) (more : Result (List ReadOne) Fault) → with_front (front ++ first ∷ []) more ≡ with_front front (before first more)
regroup front first (Ok reads) = ap (λ (reads : List ReadOne). Ok reads) (append_assoc front (first ∷ []) reads)
regroup front first (Err fault) = refl

-- the next key with its start
pub goes_on : (front : List ReadOne) (key : List ℕ) (keys starts : List (List ℕ)) (from : ReadFrom) (left : List (List ℕ)) → read_from starts ≡ Ok (from, left)
    → with_front (front ++ record { key = key; from = from } ∷ []) (each_from keys left) ≡ with_front front (each_from (key ∷ keys) starts)
unfolding each_from
goes_on front key keys starts from left e =
    regroup front (record { key = key; from = from }) (each_from keys left) ∙ ap (λ r. with_front front (read_before key r (each_from keys))) (sym e)

-- a start that can't be read
pub fails : (front : List ReadOne) (key : List ℕ) (keys starts : List (List ℕ)) (fault : Fault) → read_from starts ≡ Err fault → with_front front (each_from (key ∷ keys) starts) ≡ Err fault
unfolding each_from
fails front key keys starts fault e = ap (λ r. with_front front (read_before key r (each_from keys))) e

-- no key is left
pub ends : (front : List ReadOne) (starts : List (List ℕ)) → with_front front (each_from [] starts) ≡ Ok front
unfolding each_from
ends front starts = ap (λ (reads : List ReadOne). Ok reads) (append-nil front)
