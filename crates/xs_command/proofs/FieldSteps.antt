-- Reading fields one after the other, as a loop does.
use Rattle.std.proofs.Common.{◌≡◌, ℕ, ◌+◌, ◌≤◌, ◌<◌, List, [], ◌∷◌, ◌++◌, length, Result, Ok, sym, ap, ◌∙◌, arith}
use Rattle.std.proofs.Common.{append_assoc}
use Rattle.std.proofs.lemmas.List.{append-nil}
use Rattle.xs_stream.specs.declared.field.Field.{Field}
use Rattle.xs_resp.specs.declared.fault.Fault.{Fault}
use Rattle.xs_command.specs.declared.refusal.Refusal.{Refusal}
use Rattle.xs_command.specs.declared.refusal.Refusal.TheVariants.{Said, Memory}
use Rattle.xs_command.specs.Words.{Fails, word}
use Rattle.xs_command.specs.Fields.{field, pairs}

-- what two words or more give
pub record Step (words : List (List ℕ)) (first : Field) (behind : List (List ℕ)) : Type 0 where
  pub split : pairs words ≡ first ∷ pairs behind
  pub shorter : length words ≡ length behind + 2

pub step : (words : List (List ℕ)) (first : Field) (behind : List (List ℕ)) → field words ≡ Ok (first, behind) → Step words first behind
unfolding field word pairs
step [] first behind e = absurd cc
step (name ∷ []) first behind e = absurd cc
step (name ∷ text ∷ words) first behind e =
    let made : Field = record { name = name; value = text } in
    let same : ◌≡◌ {A = Field × List (List ℕ)} (made, words) (first, behind) = cc in
    record { split = ap (λ p. p.0 ∷ pairs p.1) same; shorter = omega (arith, ap (λ p. length p.1) same) }

-- two words or more have a field
pub no_fault : {A : Type 0} (refusal : Refusal) (words : List (List ℕ)) (read : Result A Fault) → 2 ≤ length words → Fails refusal (field words) → Fails refusal read
unfolding field word
no_fault Memory words read h e = tt
no_fault (Said fault) [] read h e = absurd (omega arith)
no_fault (Said fault) (name ∷ []) read h e = absurd (omega arith)
no_fault (Said fault) (name ∷ text ∷ words) read h e = absurd cc

-- one more field
pub goes_on : (front : List Field) (words : List (List ℕ)) (first : Field) (behind : List (List ℕ)) → field words ≡ Ok (first, behind) → (front ++ first ∷ []) ++ pairs behind ≡ front ++ pairs words
goes_on front words first behind e = append_assoc front (first ∷ []) (pairs behind) ∙ ap (λ (fields : List Field). front ++ fields) (sym (step words first behind e).split)

-- no pair is left
pub ends : (front : List Field) (words : List (List ℕ)) → length words < 2 → front ++ pairs words ≡ front
unfolding pairs
ends front [] h = append-nil front
ends front (name ∷ []) h = append-nil front
ends front (name ∷ text ∷ words) h = absurd (omega arith)
