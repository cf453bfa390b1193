-- Reading ids one after the other, as a loop does.
use Rattle.std.proofs.Common.{◌≡◌, ℕ, ◌+◌, ◌≤◌, List, [], ◌∷◌, ◌++◌, length, Option, Some, None, Result, Ok, Err, refl}
use Rattle.std.proofs.Common.{ap, ◌∙◌, arith, append_assoc}
use Rattle.std.proofs.lemmas.List.{append-nil}
use Rattle.xs_stream.specs.declared.id.Id.{Id}
use Rattle.xs_stream.specs.IdText.{parse_id}
use Rattle.xs_resp.specs.declared.fault.Fault.{Fault}
use Rattle.xs_resp.specs.declared.fault.Fault.TheVariants.{BadId}
use Rattle.xs_command.specs.Words.{or_fault, word, id_of_word}
use Rattle.xs_command.specs.Syntax.{id_before, leading_ids, ids}

-- the ids that were read before those that are still read
abbrev pub with_front : List Id → List Id × List (List ℕ) → List Id × List (List ℕ)
with_front front found = (front ++ found.0, found.1)

-- what the first word means for the leading ids
pub record Step (words : List (List ℕ)) (read : Result (Id × List (List ℕ)) Fault) : Type 0 where
  pub reads : (first : Id) (behind : List (List ℕ)) → read ≡ Ok (first, behind) → (leading_ids words ≡ id_before (Some first) words (leading_ids behind)) × (length words ≡ length behind + 1)
  pub stops : (fault : Fault) → read ≡ Err fault → leading_ids words ≡ ([], words)

step_at : (w : List ℕ) (words : List (List ℕ)) (o : Option Id) → parse_id w 0 ≡ o → Step (w ∷ words) (or_fault o BadId words)
unfolding leading_ids
step_at w words None e = record { reads = λ first behind h. absurd cc; stops = λ fault h. ap (λ o. id_before o (w ∷ words) (leading_ids words)) e }
step_at w words (Some x) e = record {
  reads = λ first behind h.
      let same : ◌≡◌ {A = Id × List (List ℕ)} (x, words) (first, behind) = cc in
      let there = ap (λ o. id_before o (w ∷ words) (leading_ids words)) e in
      (there ∙ ap (λ p. (p.0 ∷ (leading_ids p.1).0, (leading_ids p.1).1)) same, omega (arith, ap (λ p. length p.1) same));
  stops = λ fault h. absurd cc;
}

pub step : (words : List (List ℕ)) → Step words (id_of_word words)
unfolding leading_ids id_of_word word
step [] = record { reads = λ first behind h. absurd cc; stops = λ fault h. refl }
step (w ∷ words) = step_at w words (parse_id w 0) refl

-- one more id
pub goes_on : (front : List Id) (words : List (List ℕ)) (first : Id) (behind : List (List ℕ)) → id_of_word words ≡ Ok (first, behind) → with_front (front ++ first ∷ []) (leading_ids behind) ≡ with_front front (leading_ids words)
goes_on front words first behind h =
    rw ((step words).reads first behind h).0 (ap (λ (l : List Id). (l, (leading_ids behind).1)) (append_assoc front (first ∷ []) (leading_ids behind).0))

-- a word that isn't an id
pub stops_at : (front : List Id) (words : List (List ℕ)) (fault : Fault) → id_of_word words ≡ Err fault → with_front front (leading_ids words) ≡ (front, words)
stops_at front words fault h = rw ((step words).stops fault h) (ap (λ (l : List Id). (l, words)) (append-nil front))

-- no word is left
pub ends : (front : List Id) (words : List (List ℕ)) → length words ≤ 0 → with_front front (leading_ids words) ≡ (front, words)
unfolding leading_ids
ends front [] h = ap (λ (l : List Id). (l, [])) (append-nil front)
ends front (w ∷ words) h = absurd (omega arith)

pub fewer : (words : List (List ℕ)) (first : Id) (behind : List (List ℕ)) → id_of_word words ≡ Ok (first, behind) → length words ≡ length behind + 1
fewer words first behind h = ((step words).reads first behind h).1

-- an id, and after it a word that isn't one, or no word
pub single : (words : List (List ℕ)) (first : Id) (behind : List (List ℕ)) (fault : Fault) → id_of_word words ≡ Ok (first, behind) → id_of_word behind ≡ Err fault → ids words ≡ Ok (first ∷ [], behind)
unfolding ids
single words first behind fault h none =
    rw h (ap (λ (p : List Id × List (List ℕ)). Ok (first ∷ p.0, p.1)) ((step behind).stops fault none))
