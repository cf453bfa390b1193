-- The words after an unknown command, one more at a time.
use Rattle.std.proofs.Common.{◌≡◌, ℕ, ◌+◌, ◌-◌, ◌<◌, ◌≤◌, true, false, List, [], ◌∷◌, ◌++◌, length, take, refl, sym, ap, ◌∙◌, append_assoc, nat_lt, arith}
use Rattle.std.proofs.lemmas.Bool.{lt-ltb, le-ltb}
use Rattle.std.specs.Prelude.{Ok, Err}
use Rattle.xs_resp.specs.declared.fault.Fault.{Fault}
use Rattle.xs_command.specs.Words.{word}
use Rattle.xs_connection.specs.Unknown.{arguments, quoted}

pub arguments-full : (used : ℕ) (words : List (List ℕ)) → 128 ≤ used → arguments used words ≡ []
unfolding arguments
arguments-full used [] full = refl
arguments-full used (w ∷ words) full = rw (le-ltb used 128 full) refl

pub arguments-none : (used : ℕ) → arguments used [] ≡ []
unfolding arguments
arguments-none used = refl

pub arguments-more : (used : ℕ) (w : List ℕ) (words : List (List ℕ)) → used < 128
    → arguments used (w ∷ words) ≡ quoted (take (128 - used) w) ++ arguments (used + (length (take (128 - used) w) + 3)) words
unfolding arguments
arguments-more used w words some = rw (lt-ltb used 128 some) refl

pub word-none : (words : List (List ℕ)) (fault : Fault) → word words ≡ Err fault → words ≡ []
unfolding word
word-none [] fault is = refl
word-none (w ∷ words) fault is = absurd (cc)

pub word-some : (words rest : List (List ℕ)) (w : List ℕ) → word words ≡ Ok (w, rest) → words ≡ w ∷ rest
unfolding word
word-some [] rest w is = absurd (cc)
word-some (v ∷ words) rest w is = let e : ◌≡◌ {A = List ℕ × List (List ℕ)} (v, words) (w, rest) = cc in ap (λ p. p.0 ∷ p.1) e
