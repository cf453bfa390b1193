-- Bytes that are written unchanged, and the next one that isn't.
use Rattle.std.proofs.Common.{◌≡◌, ℕ, ◌+◌, ◌-◌, ◌<◌, ◌≤◌, true, false, List, [], ◌∷◌, ◌++◌, length, take, drop, get_or, sym, ap, ◌∙◌, subst, arith, append_assoc}
use Rattle.std.proofs.lemmas.List.{take_more, take_all, take-take, take-append-drop, drop-append-le, drop-take, drop_all, length-take-le}
use Rattle.xs_tape.specs.Escape.{escape, escaped}
use Rattle.xs_tape.specs.Writing.{Writing, Puts}
use Rattle.xs_tape.proofs.Escapes.{escape-other, escaped-append}
use Rattle.xs_tape.proofs.Puts.{puts_join, puts_broken}
use Rattle.xs_tape.proofs.Walks.{escaped_more}

-- the bytes between two places, with one more
between-more : (word : List ℕ) (done at : ℕ) → done ≤ at → at < length word → drop done (take (at + 1) word) ≡ drop done (take at word) ++ get_or word at 0 ∷ []
between-more word done at le lt =
    ap (drop done) (take_more word at 0 lt) ∙ drop-append-le done (take at word) (get_or word at 0 ∷ []) (omega (arith, le, length-take-le at word (omega (arith, lt))))

-- nothing is passed yet
pub plain_none : (word : List ℕ) (done at : ℕ) → at ≤ done → at ≤ length word → escaped (drop done (take at word)) ≡ drop done (take at word)
plain_none word done at le within =
    let none : drop done (take at word) ≡ [] = drop_all done (take at word) (omega (arith, le, length-take-le at word within)) in
    ap escaped none ∙ sym none

-- a byte above 1 is written unchanged
pub plain_more : (word : List ℕ) (done at : ℕ) → done ≤ at → at < length word → 1 < get_or word at 0 → escaped (drop done (take at word)) ≡ drop done (take at word)
    → escaped (drop done (take (at + 1) word)) ≡ drop done (take (at + 1) word)
plain_more word done at le lt above plain =
    let run = drop done (take at word) in
    let byte = get_or word at 0 in
    let more = between-more word done at le lt in
    let one = escape-other byte (λ e. absurd (omega (arith, e, above))) (λ e. absurd (omega (arith, e, above))) in
    ap escaped more ∙ escaped-append run (byte ∷ []) ∙ ap (λ r. r ++ (escape byte ++ [])) plain ∙ ap (λ e. run ++ (e ++ [])) one ∙ sym more

-- the parts of the first bytes
parts : (word : List ℕ) (done at : ℕ) → done ≤ at → escaped (drop done (take at word)) ≡ drop done (take at word) → escaped (take at word) ≡ escaped (take done word) ++ drop done (take at word)
parts word done at le plain =
    let front = take-take done at word le in
    ap escaped (sym (take-append-drop done (take at word))) ∙ escaped-append (take done (take at word)) (drop done (take at word)) ∙ ap (λ r. escaped (take done (take at word)) ++ r) plain
    ∙ ap (λ f. escaped f ++ drop done (take at word)) front

-- the bytes that were passed, and the byte after them
pub run_more : (word : List ℕ) (done at : ℕ) → done ≤ at → at < length word → escaped (drop done (take at word)) ≡ drop done (take at word)
    → escaped (take done word) ++ (drop done (take at word) ++ escape (get_or word at 0)) ≡ escaped (take (at + 1) word)
run_more word done at le lt plain =
    sym (append_assoc (escaped (take done word)) (drop done (take at word)) (escape (get_or word at 0)))
    ∙ ap (λ t. t ++ escape (get_or word at 0)) (sym (parts word done at le plain)) ∙ sym (escaped_more word at lt)

-- the bytes that were passed, up to the end
pub run_last : (word : List ℕ) (done at : ℕ) → done ≤ at → length word ≤ at → escaped (drop done (take at word)) ≡ drop done (take at word) → escaped (take done word) ++ drop done word ≡ escaped word
run_last word done at le all plain =
    let whole = take_all at word all in
    ap (λ w. escaped (take done word) ++ drop done w) (sym whole) ∙ sym (parts word done at le plain) ∙ ap escaped whole

-- the same of a slice
pub slice_is : (word : List ℕ) (done at : ℕ) → done ≤ at → drop done (take at word) ≡ take (at - done) (drop done word)
slice_is word done at le =
    let sum : at ≡ done + (at - done) = omega (arith, le) in
    ap (λ n. drop done (take n word)) sum ∙ drop-take done (at - done) word

pub plain_slice : (word : List ℕ) (done at : ℕ) → done ≤ at → escaped (drop done (take at word)) ≡ drop done (take at word) → escaped (take (at - done) (drop done word)) ≡ take (at - done) (drop done word)
plain_slice word done at le plain = let same = slice_is word done at le in ap escaped (sym same) ∙ plain ∙ same

-- the bytes that were passed and the byte after them are put
pub passed : (old here new : Writing) (word : List ℕ) (done at : ℕ) → done ≤ at → at < length word → escaped (drop done (take at word)) ≡ drop done (take at word) → Puts old here (escaped (take done word))
    → Puts here new (take (at - done) (drop done word) ++ escape (get_or word at 0)) → Puts old new (escaped (take (at + 1) word))
passed old here new word done at le lt plain first more =
    let run = subst (λ r. Puts here new (r ++ escape (get_or word at 0))) (sym (slice_is word done at le)) more in
    subst (λ t. Puts old new t) (run_more word done at le lt plain) (puts_join old here new (escaped (take done word)) (drop done (take at word) ++ escape (get_or word at 0)) first run)

-- the bytes that were passed, up to the end, are put
pub passed_all : (old here new : Writing) (word : List ℕ) (done at : ℕ) → done ≤ at → length word ≤ at → at ≤ length word → escaped (drop done (take at word)) ≡ drop done (take at word) → Puts old here (escaped (take done word))
    → Puts here new (take (length word - done) (drop done word)) → Puts old new (escaped word)
passed_all old here new word done at le all within plain first more =
    let same : at ≡ length word = omega (arith, all, within) in
    let run = subst (λ r. Puts here new r) (sym (ap (λ n. take (n - done) (drop done word)) same)) more in
    let whole = take_all at word all in
    subst (λ t. Puts old new t) (run_last word done at le all plain) (puts_join old here new (escaped (take done word)) (drop done word) first (subst (λ r. Puts here new r) (sym (slice_is word done at le) ∙ ap (drop done) whole) run))

-- if a call has failed, the whole word may have been put
pub passed_broken : (old new : Writing) (word : List ℕ) (n : ℕ) → new.broken ≡ true → Puts old new (escaped (take n word)) → Puts old new (escaped word)
passed_broken old new word n broken first =
    let whole = sym (escaped-append (take n word) (drop n word)) ∙ ap escaped (take-append-drop n word) in
    subst (λ t. Puts old new t) whole (puts_broken old new (escaped (take n word)) (escaped (drop n word)) broken first)

pub plain_end : (word : List ℕ) (done at : ℕ) → done ≤ at → length word ≤ at → at ≤ length word → escaped (drop done (take at word)) ≡ drop done (take at word)
    → escaped (take (length word - done) (drop done word)) ≡ take (length word - done) (drop done word)
plain_end word done at le all within plain =
    let same : at ≡ length word = omega (arith, all, within) in
    subst (λ n. escaped (take (n - done) (drop done word)) ≡ take (n - done) (drop done word)) same (plain_slice word done at le plain)

-- the part of a word that is put
abbrev pub IsPassed : Writing → Writing → List ℕ → ℕ → ℕ → Type 0
IsPassed old new word done at =
    Puts old new (escaped (take done word)) × (new.broken ≡ false) × (done ≤ at) × (escaped (drop done (take at word)) ≡ drop done (take at word))

pub passed_escaped : (old here new self : Writing) (word : List ℕ) (done at next : ℕ) → IsPassed old here word done at → at < length word → Puts here new (take (at - done) (drop done word) ++ escape (get_or word at 0))
    → new.broken ≡ false → self ≡ new → next ≡ at + 1 → IsPassed old self word next (at + 1)
passed_escaped old here new self word done at next so_far lt more fine self_is next_is =
    let there : IsPassed old new word (at + 1) (at + 1) =
    (passed old here new word done at so_far.2 lt so_far.3 so_far.0 more, fine, omega arith, plain_none word (at + 1) (at + 1) (omega arith) (omega (arith, lt))) in
    subst (λ s. IsPassed old s word next (at + 1)) (sym self_is) (subst (λ n. IsPassed old new word n (at + 1)) (sym next_is) there)

pub passed_plain : (old here self : Writing) (word : List ℕ) (done at next : ℕ) → IsPassed old here word done at → at < length word → 1 < get_or word at 0 → self ≡ here → next ≡ done → IsPassed old self word next (at + 1)
passed_plain old here self word done at next so_far lt above self_is next_is =
    let there : IsPassed old here word done (at + 1) = (so_far.0, so_far.1, omega (arith, so_far.2), plain_more word done at so_far.2 lt above so_far.3) in
    subst (λ s. IsPassed old s word next (at + 1)) (sym self_is) (subst (λ n. IsPassed old here word n (at + 1)) (sym next_is) there)

-- the first bytes, with one more above 1
pub plain_next : (word : List ℕ) (at : ℕ) → at < length word → 1 < get_or word at 0 → escaped (take at word) ≡ take at word → escaped (take (at + 1) word) ≡ take (at + 1) word
plain_next word at lt above plain = plain_more word 0 at (omega arith) lt above plain

-- a text that escaping leaves unchanged
pub plain_all : (text : List ℕ) (n : ℕ) → length text ≤ n → escaped (take n text) ≡ take n text → escaped text ≡ text
plain_all text n all plain = ap escaped (sym (take_all n text all)) ∙ plain ∙ take_all n text all

-- the bytes after the first ones, which escaping leaves unchanged
pub plain_front : (text : List ℕ) (n : ℕ) → escaped (take n text) ≡ take n text → text ≡ escaped (take n text) ++ drop n text
plain_front text n plain = sym (take-append-drop n text) ∙ ap (λ t. t ++ drop n text) (sym plain)
