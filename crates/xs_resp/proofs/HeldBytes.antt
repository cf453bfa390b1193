-- What a reader holds.
use Rattle.std.proofs.Common.{◌≡◌, ℕ, ◌==◌, ◌<◌, Bool, true, false, List, Some}
use Rattle.std.proofs.Common.{None, Result, Ok, refl, sym, subst, arith}
use Rattle.std.proofs.lemmas.Bool.{eqb-true, eqb-false}
use Rattle.xs_resp.specs.Outcome.{Outcome}
use Rattle.xs_resp.specs.Reading.{Found, request}
use Rattle.xs_resp.specs.declared.read_fault.ReadFault.{ReadFault}
use Rattle.xs_resp.specs.HeldBytes.{Held, Ready, ReadyOf}
use Rattle.xs_resp.specs.Progress.{IsProgressOf}
use Rattle.xs_resp.specs.declared.progress.Progress.{Progress}
use Rattle.xs_resp.proofs.Progressing.{follows-all}

-- whether a request is complete, by the outcome of the held bytes
pub Ready-by : (held : Held) (bytes : List ℕ) (outcome : Outcome Found) (result : Result Bool ReadFault) (new : Held) → held ≡ Ok bytes → request bytes ≡ outcome → ReadyOf bytes outcome result new
    → Ready held result new
Ready-by held bytes outcome result new is e ready =
    subst (λ h. Ready h result new) (sym is) (subst (λ o. ReadyOf bytes o result new) (sym e) ready)

-- a request is complete once no word is left
pub ready-reached : (held : Held) (bytes : List ℕ) (progress : Progress) → held ≡ Ok bytes → IsProgressOf bytes progress → (0 < progress.left → request bytes ≡ Ok None)
    → Ready held (Ok (progress.left == 0)) (Ok bytes)
ready-reached held bytes progress is f none = by-left (progress.left == 0) refl
  where
    by-left : (b : Bool) → (progress.left == 0) ≡ b → Ready held (Ok b) (Ok bytes)
    by-left true e = Ready-by held bytes (Ok (Some (record { words = f.passed; end = progress.at }))) (Ok true) (Ok bytes) is (follows-all bytes progress f (eqb-true progress.left 0 e)) (refl, refl)
    by-left false e = Ready-by held bytes (Ok None) (Ok false) (Ok bytes) is (none (omega (arith, eqb-false progress.left 0 e))) (refl, refl)
