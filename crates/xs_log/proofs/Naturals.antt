-- Numbers as they are spelled, and moments.
use Rattle.std.proofs.Common.{◌≡◌, ◌≢◌, ℕ, ◌^◌, ◌<◌, Some, None, inl, inr, sym, ◌∙◌, arith, cond, nat_lt}
use Rattle.std.proofs.lemmas.Bool.{ltb-true, lt-ltb, false≢true}
use Rattle.xs_resp.proofs.Reading.{chosen}
use Rattle.xs_tape.proofs.Naturals.{spelled_once, same_number, no_number}

pub moment_in : (n now : ℕ) → cond (nat_lt n (2 ^ 63)) (Some n) None ≡ Some now → (n ≡ now) × (now < 2 ^ 63)
moment_in n now e =
    elim (chosen (nat_lt n (2 ^ 63)) (Some n) None (Some now) e) [
      | inl is ↦ (let same : n ≡ now = cc in (same, omega (arith, same, ltb-true n (2 ^ 63) is.0)))
      | inr none ↦ absurd (cc (none.1))
    ]

pub moment_over : (n now : ℕ) → cond (nat_lt n (2 ^ 63)) (Some n) None ≡ None → now < 2 ^ 63 → n ≢ now
moment_over n now e small is =
    elim (chosen (nat_lt n (2 ^ 63)) (Some n) None None e) [
      | inl some ↦ absurd (cc (some.1))
      | inr none ↦ absurd (false≢true (sym none.0 ∙ lt-ltb n (2 ^ 63) (omega (arith, is, small))))
    ]

-- when a text is a number
pub ruleset naturals = (spelled_once, same_number, no_number)
