-- The count is the sum modulo 2^128: how it changes with the sum, and that what it refuses the sum refuses.
use Rattle.std.proofs.Common.{◌≡◌, ℕ, ◌+◌, ◌^◌, ◌%◌, ◌<◌, ◌≤◌, arith}
use Rattle.xs_keys.specs.KeysRoom.{IsCountOf}

pub counted-changed : (sum later held new before after : ℕ) → IsCountOf sum held → new < 2 ^ 128 → (new + before) % 2 ^ 128 ≡ (held + after) % 2 ^ 128 → later + before ≡ sum + after → IsCountOf later new
counted-changed sum later held new before after counted small changed follows = omega (arith, counted, small, changed, follows)

pub count-within : (sum held : ℕ) → IsCountOf sum held → held ≤ sum
count-within sum held counted = omega (arith, counted)
