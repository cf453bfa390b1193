-- How a complete request is skipped.
use Rattle.std.proofs.Common.{◌≡◌, ℕ, ◌<◌, List, drop, Some, None, Ok, inl, inr, sym, ap, ◌∙◌, arith}
use Rattle.std.proofs.lemmas.Bool.{cases_lt}
use Rattle.xs_resp.specs.declared.progress.Progress.{Progress}
use Rattle.xs_resp.specs.declared.requests.State.{State}
use Rattle.xs_resp.specs.declared.requests.State.TheVariants.{Between, Within, Failed}
use Rattle.xs_resp.specs.HeldBytes.{Held, HasNext, Skips}
use Rattle.xs_resp.specs.Progress.{IsProgressOf}
use Rattle.xs_resp.specs.Reading.{Found, request, IsWhole}
use Rattle.xs_resp.specs.State.{held_in}
use Rattle.xs_resp.proofs.Progressing.{follows-all}

-- the bytes that are held, in any state
pub held-bytes : (state : State) (bytes other : List ℕ) → held_in state bytes ≡ Ok other → bytes ≡ other
held-bytes Between bytes other e = cc
held-bytes (Within progress) bytes other e = cc
held-bytes (Failed wrong) bytes other e = absurd (cc)

-- a complete request is read to its end
pub reached-end : (bytes : List ℕ) (progress : Progress) → (f : IsProgressOf bytes progress) → (0 < progress.left → request bytes ≡ Ok None) → IsWhole (request bytes)
    → request bytes ≡ Ok (Some (record { words = f.passed; end = progress.at }))
reached-end bytes progress f open' whole =
    elim (cases_lt 0 progress.left) [
      | inl some ↦ absurd (let none = open' some in let read = whole.1 in cc)
      | inr none ↦ follows-all bytes progress f (omega arith)
    ]

-- the request ends at the end of its reading
pub same-end : (bytes : List ℕ) (progress : Progress) (found : Found) → (f : IsProgressOf bytes progress) → (0 < progress.left → request bytes ≡ Ok None) → request bytes ≡ Ok (Some found) → progress.at ≡ found.end
same-end bytes progress found f open' read =
    let reached = reached-end bytes progress f open' (found, read) in
    let same : record { words = f.passed; end = progress.at } ≡ found = cc in
    ap (λ (f : Found). f.end) same

-- if more bytes decide, there is no request
pub not-whole : (held : Held) (bytes : List ℕ) → HasNext held → held ≡ Ok bytes → request bytes ≡ Ok None → ⊥
not-whole held bytes next is none =
    let same : next.bytes ≡ bytes = let holds = next.holds in cc in
    let read = (next.whole).1 in
    let open' = ap request same ∙ none in
    cc

-- the request that was dropped is the one that is read
pub skip-left : (held : Held) (bytes : List ℕ) (found : Found) (new : Held) → Skips held new → held ≡ Ok bytes → request bytes ≡ Ok (Some found) → new ≡ Ok (drop found.end bytes)
skip-left held bytes found new skips is read =
    let same : skips.bytes ≡ bytes = let holds = skips.holds in cc in
    let one = sym skips.read ∙ ap request same ∙ read in
    let all : skips.found ≡ found = cc in
    skips.left ∙ ap (λ (f : Found). Ok (drop f.end skips.bytes)) all ∙ ap (λ b. Ok (drop found.end b)) same
