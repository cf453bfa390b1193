-- What a client may send before it has given the password. (Redis has the same limits, `readQueryFromClient`.)
use Rattle.std.specs.Prelude.{ℕ, Bool, true, false, not, ◌&&◌, nat_le, nat_lt, List, [], ◌∷◌, length, Some, None, Ok, Err}
use Rattle.xs_resp.specs.Outcome.{Outcome}
use Rattle.xs_resp.specs.Reading.{Found, request}
use Rattle.xs_resp.specs.HeldBytes.{Held}

-- no word has more than 16,384 bytes
abbrev pub are_short : List (List ℕ) → Bool
are_short [] = true
are_short (word ∷ words) = nat_le (length word) 16384 && are_short words

-- a request of at most ten such words
abbrev pub is_small : List (List ℕ) → Bool
is_small words = nat_le (length words) 10 && are_short words

-- more than it may send: a request that isn't small; or, without a complete request, more bytes than any small one has
abbrev pub is_too_much_of : Outcome Found → List ℕ → Bool
is_too_much_of (Ok (Some found)) bytes = not (is_small found.words)
is_too_much_of (Ok None) bytes = nat_lt 163945 (length bytes)
is_too_much_of (Err wrong) bytes = false

abbrev pub is_too_much : Held → Bool
is_too_much (Ok bytes) = is_too_much_of (request bytes) bytes
is_too_much (Err wrong) = false
