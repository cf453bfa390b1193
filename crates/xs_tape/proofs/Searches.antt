-- The place of the first byte that is zero, or is escaped.
use Rattle.std.specs.Prelude.{MatchOption, unwrap_or}
use Rattle.std.proofs.Common.{◌≡◌, ◌≢◌, ℕ, zero, suc, ◌+◌, ◌<◌, ◌≤◌, true, ◌||◌, List, length, take, get_or, eqb, Option, Some, None, subst, arith, refl}
use Rattle.std.proofs.lemmas.Bool.{eq-eqb, eqb-true}
use Rattle.std.proofs.lemmas.List.{take_all}
use Rattle.memchr.specs.Find.{IsFirstByte, is_byte, is_byte2}
use Rattle.xs_tape.specs.Crash.{HasNoZero, before_zero}
use Rattle.xs_tape.specs.Escape.{escaped}
use Rattle.xs_tape.proofs.Walks.{no_zero_more, before_zero_at}
use Rattle.xs_tape.proofs.Runs.{plain_next}

no-zero-up-to : (bytes : List ℕ) (n : ℕ) → n ≤ length bytes → ((k : ℕ) → k < n → get_or bytes k 0 ≢ 0) → HasNoZero (take n bytes)
no-zero-up-to bytes zero le none = tt
no-zero-up-to bytes (suc n) le none =
    let next : n + 1 ≡ suc n = omega arith in
    let before = no-zero-up-to bytes n (omega (arith, le)) (λ k lt. none k (omega (arith, lt))) in
    subst (λ m. HasNoZero (take m bytes)) next (no_zero_more bytes n (omega (arith, le)) before (none n (omega arith)))

-- the first zero
pub first_zero : (bytes : List ℕ) (found : Option ℕ) → IsFirstByte (is_byte 0) bytes found
    → MatchOption found (HasNoZero bytes) (λ at. (at < length bytes) × HasNoZero (take at bytes) × (before_zero bytes ≡ take at bytes))
first_zero bytes None none =
    subst HasNoZero (take_all (length bytes) bytes (omega arith)) (no-zero-up-to bytes (length bytes) (omega arith) (λ k lt e. none k (omega arith) lt (eq-eqb (get_or bytes k 0) 0 e)))
first_zero bytes (Some at) first =
    let lt = first.0.high in
    let front = no-zero-up-to bytes at (omega (arith, lt)) (λ k below e. first.0.before k (omega arith) below (eq-eqb (get_or bytes k 0) 0 e)) in
    (lt, front, before_zero_at bytes at lt front (eqb-true (get_or bytes at 0) 0 first.1))

plain-up-to : (text : List ℕ) (n : ℕ) → n ≤ length text → ((k : ℕ) → k < n → 1 < get_or text k 0) → escaped (take n text) ≡ take n text
plain-up-to text zero le above = refl
plain-up-to text (suc n) le above =
    let next : n + 1 ≡ suc n = omega arith in
    let before = plain-up-to text n (omega (arith, le)) (λ k lt. above k (omega (arith, lt))) in
    subst (λ m. escaped (take m text) ≡ take m text) next (plain_next text n (omega (arith, le)) (above n (omega arith)) before)

above-one : (byte : ℕ) → ((eqb byte 0 || eqb byte 1) ≡ true → ⊥) → 1 < byte
above-one zero not = absurd (not refl)
above-one (suc zero) not = absurd (not refl)
above-one (suc (suc byte)) not = omega arith

-- the bytes before the first that is 0 or 1
pub record IsPlain (text : List ℕ) (n : ℕ) : Type 0 where
  pub within : n ≤ length text
  pub plain : escaped (take n text) ≡ take n text

pub plain_part : (text : List ℕ) (found : Option ℕ) → IsFirstByte (is_byte2 0 1) text found → IsPlain text (unwrap_or found (length text))
plain_part text None none = record { within = omega arith; plain = plain-up-to text (length text) (omega arith) (λ k lt. above-one (get_or text k 0) (none k (omega arith) lt)) }
plain_part text (Some at) first = record {
  within = omega (arith, first.0.high);
  plain = plain-up-to text at (omega (arith, first.0.high)) (λ k below. above-one (get_or text k 0) (first.0.before k (omega arith) below));
}
