-- Reading options one after the other, as a loop does.
use Rattle.std.proofs.Common.{◌≡◌, Option, ℕ, zero, suc, ◌-◌, ◌+◌, ◌≤◌, ◌<◌, List, [], ◌∷◌, Some, None, Result, Ok, Err}
use Rattle.std.proofs.Common.{refl, sym, ap, ◌∙◌, arith}
use Rattle.xs_resp.specs.declared.fault.Fault.{Fault}
use Rattle.xs_command.specs.declared.refusal.Refusal.{Refusal}
use Rattle.xs_command.specs.declared.refusal.Refusal.TheVariants.{Said, Memory}
use Rattle.xs_command.specs.Words.{Fails, word}
use Rattle.xs_command.specs.Options.{OptionOf, option_after, up_to}

-- the next word is the first one
word_is : (words : List (List ℕ)) (x : List ℕ × List (List ℕ)) → word words ≡ Ok x → words ≡ x.0 ∷ x.1
unfolding word
word_is [] x e = absurd cc
word_is (w ∷ words) x e = cc

-- one more option
pub one_option : {S : Type 0} (option : OptionOf S) (n i : ℕ) (s : S) (words : List (List ℕ)) (x : List ℕ × List (List ℕ)) → i < n → word words ≡ Ok x → up_to (n - i) option s words ≡ option_after (option s x.0 x.1) words (λ t left. up_to (n - (i + 1)) option t left)
unfolding up_to
one_option option n i s words x lt e =
    let k : n - i ≡ suc (n - (i + 1)) = omega arith in
    rw (k, word_is words x e) refl

pub fails : {S : Type 0} (refusal : Refusal) (option : OptionOf S) (n i : ℕ) (s : S) (words : List (List ℕ)) (x : List ℕ × List (List ℕ)) (total : Result (S × List (List ℕ)) Fault) → i < n → word words ≡ Ok x → Fails refusal (option s x.0 x.1) → up_to (n - i) option s words ≡ total → Fails refusal total
fails Memory option n i s words x total lt e f so_far = tt
fails (Said fault) option n i s words x total lt e f so_far = sym so_far ∙ one_option option n i s words x lt e ∙ ap (λ r. option_after r words (λ t left. up_to (n - (i + 1)) option t left)) f

-- there is no next word
pub at_end : {S : Type 0} (option : OptionOf S) (n : ℕ) (s : S) (words : List (List ℕ)) (fault : Fault) → word words ≡ Err fault → up_to n option s words ≡ Ok (s, words)
unfolding up_to word
at_end option zero s words fault e = refl
at_end option (suc n) s [] fault e = refl
at_end option (suc n) s (w ∷ words) fault e = absurd cc

pub is_done : {S : Type 0} (option : OptionOf S) (n i : ℕ) (s : S) (words : List (List ℕ)) → n ≤ i → up_to (n - i) option s words ≡ Ok (s, words)
unfolding up_to
is_done option n i s words le = let k : n - i ≡ 0 = omega arith in rw k refl

-- the option was read, and more can follow
pub goes_on : {S : Type 0} (option : OptionOf S) (n i : ℕ) (s t : S) (words left : List (List ℕ)) (behind : Option (List (List ℕ))) (x : List ℕ × List (List ℕ)) (total : Result (S × List (List ℕ)) Fault) → i < n → word words ≡ Ok x → option s x.0 x.1 ≡ Ok (t, behind) → behind ≡ Some left → up_to (n - i) option s words ≡ total → up_to (n - (i + 1)) option t left ≡ total
goes_on option n i s t words left behind x total lt e o b so_far =
    let one_read = one_option option n i s words x lt e ∙ ap (λ r. option_after r words (λ t left. up_to (n - (i + 1)) option t left)) (o ∙ ap (λ b. Ok (t, b)) b) in
    sym one_read ∙ so_far

-- the word was not an option
pub stops : {S : Type 0} (option : OptionOf S) (n i : ℕ) (s t : S) (words : List (List ℕ)) (behind : Option (List (List ℕ))) (x : List ℕ × List (List ℕ)) (total : Result (S × List (List ℕ)) Fault) → i < n → word words ≡ Ok x → option s x.0 x.1 ≡ Ok (t, behind) → behind ≡ None → up_to (n - i) option s words ≡ total → total ≡ Ok (t, words)
stops option n i s t words behind x total lt e o b so_far =
    let one_read = one_option option n i s words x lt e ∙ ap (λ r. option_after r words (λ t left. up_to (n - (i + 1)) option t left)) (o ∙ ap (λ b. Ok (t, b)) b) in
    sym so_far ∙ one_read
