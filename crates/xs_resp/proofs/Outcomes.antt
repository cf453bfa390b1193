-- Facts about outcomes.
use Rattle.std.proofs.Common.{◌≡◌, ℕ, ◌+◌, List, [], ◌++◌, Some, None, Ok, Err, inl, inr, ◌⊎◌, refl, ap, ◌∙◌, arith}
use Rattle.std.proofs.Common.{append_assoc}
use Rattle.xs_resp.specs.declared.read_fault.ProtocolFault.{ProtocolFault}
use Rattle.xs_resp.specs.Outcome.{Outcome, ◌>>=◌, Keeps}
use Rattle.xs_resp.specs.Reading.{Found, behind_words}

-- if two steps read a value, each of them does
pub bind-ok : {A B : Type 0} (first : Outcome A) (next : A → Outcome B) (y : B) → (first >>= next) ≡ Ok (Some y) → (x : A) × (first ≡ Ok (Some x)) × (next x ≡ Ok (Some y))
bind-ok (Ok (Some x)) next y e = (x, refl, e)
bind-ok (Ok None) next y e = absurd (cc)
bind-ok (Err wrong) next y e = absurd (cc)

-- the same outcome keeps all
pub Keeps-same : {A : Type 0} (first later : Outcome A) → later ≡ first → Keeps first later
Keeps-same (Ok (Some x)) later e = e
Keeps-same (Ok None) later e = tt
Keeps-same (Err wrong) later e = e

-- two steps keep what each of them keeps
pub Keeps-bind : {A B : Type 0} (first later : Outcome A) (next next' : A → Outcome B) → Keeps first later → ((x : A) → first ≡ Ok (Some x) → Keeps (next x) (next' x)) → Keeps (first >>= next) (later >>= next')
Keeps-bind (Ok (Some x)) later next next' k h = rw k (h x refl)
Keeps-bind (Ok None) later next next' k h = tt
Keeps-bind (Err wrong) later next next' k h = ap (λ r. r >>= next') k

-- words after words after words
pub after-after : (words more : List (List ℕ)) (end length : ℕ) (rest : Outcome Found) → behind_words words end (behind_words more length rest) ≡ behind_words (words ++ more) (end + length) rest
after-after words more end length (Ok (Some found)) =
    let texts : words ++ (more ++ found.words) ≡ (words ++ more) ++ found.words = rw append_assoc refl in
    let ends : end + (length + found.end) ≡ (end + length) + found.end = omega arith in
    ap (λ ws. Ok (Some (record { words = ws; end = end + (length + found.end) }))) texts ∙ ap (λ n. Ok (Some (record { words = (words ++ more) ++ found.words; end = n }))) ends
after-after words more end length (Ok None) = refl
after-after words more end length (Err wrong) = refl

-- a fault of two steps is one of them
pub bind-err : {A B : Type 0} (first : Outcome A) (next : A → Outcome B) (wrong : ProtocolFault) → (first >>= next) ≡ Err wrong → (first ≡ Err wrong) ⊎ ((x : A) × (first ≡ Ok (Some x)) × (next x ≡ Err wrong))
bind-err (Ok (Some x)) next wrong e = inr (x, refl, e)
bind-err (Ok None) next wrong e = absurd (cc)
bind-err (Err fault) next wrong e = inl (cc)

-- the three outcomes
pub cases-outcome : {A : Type 0} (outcome : Outcome A) → (outcome ≡ Ok None) ⊎ (((x : A) × (outcome ≡ Ok (Some x))) ⊎ ((wrong : ProtocolFault) × (outcome ≡ Err wrong)))
cases-outcome (Ok None) = inl refl
cases-outcome (Ok (Some x)) = inr (inl (x, refl))
cases-outcome (Err wrong) = inr (inr (wrong, refl))

-- after no words
pub after-none : (rest : Outcome Found) → behind_words [] 0 rest ≡ rest
after-none (Ok (Some found)) = ap (λ n. Ok (Some (record { words = found.words; end = n }))) (omega arith)
after-none (Ok None) = refl
after-none (Err wrong) = refl

-- what is decided after words stays decided
pub after-keeps : (words : List (List ℕ)) (end : ℕ) (first later : Outcome Found) → Keeps first later → Keeps (behind_words words end first) (behind_words words end later)
after-keeps words end first later k = Keeps-bind first later _ _ k (λ found e. refl)
