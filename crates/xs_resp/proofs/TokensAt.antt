-- A token that is read at its place.
use Rattle.std.proofs.Common.{◌≡◌, ℕ, zero, suc, ◌+◌, ◌<◌, ◌≤◌, get_or, List, [], ◌∷◌, length, take, drop, refl, sym}
use Rattle.std.proofs.Common.{ap, ◌∙◌, arith, length-append, length-drop, length-take-le}
use Rattle.std.proofs.lemmas.List.{drop-drop}
use Rattle.xs_resp.specs.declared.mark.Mark.{Mark}
use Rattle.xs_resp.specs.declared.mark.Mark.TheVariants.{Simple, Error, ErrorText, Int, Bulk, NullBulk, Array, NullArray}
use Rattle.xs_resp.specs.LeftToWrite.{string_of, strings_of}
use Rattle.xs_resp.specs.Marks.{string_length, strings_length, token_in, tokens_in}

pub tokens-length : (ms : List Mark) (strings : List ℕ) → length (tokens_in ms strings) ≡ length ms
tokens-length [] strings = refl
tokens-length (m ∷ ms) strings = ap suc (tokens-length ms (drop (string_length m) strings))

-- the tokens after some have the strings after theirs
pub tokens-drop : (i : ℕ) (ms : List Mark) (strings : List ℕ)
    → drop i (tokens_in ms strings) ≡ tokens_in (drop i ms) (drop (strings_length (take i ms)) strings)
tokens-drop zero ms strings = refl
tokens-drop (suc i) [] strings = refl
tokens-drop (suc i) (m ∷ ms) strings =
    tokens-drop i ms (drop (string_length m) strings)
    ∙ ap (tokens_in (drop i ms)) (drop-drop (strings_length (take i ms)) (string_length m) strings)

none : (string : List ℕ) → length string ≡ 0 → [] ≡ string
none [] e = refl
none (b ∷ bs) e = absurd (omega (arith, e))

-- the length of a token's string is that of its mark
pub string-is : (m : Mark) (string : List ℕ) → length string ≡ string_length m → string_of (token_in m string) ≡ string
string-is (Simple s) string e = none string e
string-is (Error f) string e = none string e
string-is (ErrorText n) string e = refl
string-is (Int n) string e = none string e
string-is (Bulk n) string e = refl
string-is NullBulk string e = none string e
string-is (Array n) string e = none string e
string-is NullArray string e = none string e

pub strings-take : (i : ℕ) (ms : List Mark) (strings : List ℕ) → strings_length ms ≤ length strings
    → length (strings_of (take i (tokens_in ms strings))) ≡ strings_length (take i ms)
strings-take zero ms strings fits = refl
strings-take (suc i) [] strings fits = refl
strings-take (suc i) (m ∷ ms) strings fits =
    let n = string_length m in
    let own = take n strings in
    let behind = drop n strings in
    let long : length own ≡ n = length-take-le n strings (omega (arith, fits)) in
    let rest : strings_length ms ≤ length behind = omega (arith, fits, length-drop n strings) in
    let here : length (string_of (token_in m own)) ≡ n = ap length (string-is m own long) ∙ long in
    omega (arith, here, strings-take i ms behind rest, length-append (string_of (token_in m own)) (strings_of (take i (tokens_in ms behind))))

pub mark-next : (i : ℕ) (ms : List Mark) (d : Mark) → i < length ms → drop i ms ≡ get_or ms i d ∷ drop (suc i) ms
mark-next zero [] d low = absurd (omega (arith, low))
mark-next zero (m ∷ ms) d low = refl
mark-next (suc i) [] d low = absurd (omega (arith, low))
mark-next (suc i) (m ∷ ms) d low = mark-next i ms d (omega (arith, low))

pub lengths-next : (i : ℕ) (ms : List Mark) (d : Mark) → i < length ms
    → strings_length (take i ms) + string_length (get_or ms i d) ≤ strings_length ms
lengths-next zero [] d low = absurd (omega (arith, low))
lengths-next zero (m ∷ ms) d low = omega arith
lengths-next (suc i) [] d low = absurd (omega (arith, low))
lengths-next (suc i) (m ∷ ms) d low = omega (arith, lengths-next i ms d (omega (arith, low)))

lengths-more : (i : ℕ) (ms : List Mark) (d : Mark) → i < length ms
    → strings_length (take (suc i) ms) ≡ strings_length (take i ms) + string_length (get_or ms i d)
lengths-more zero [] d low = absurd (omega (arith, low))
lengths-more zero (m ∷ ms) d low = omega arith
lengths-more (suc i) [] d low = absurd (omega (arith, low))
lengths-more (suc i) (m ∷ ms) d low = omega (arith, lengths-more i ms d (omega (arith, low)))

-- the token of an index, and those after it
pub token-at : (i : ℕ) (ms : List Mark) (d : Mark) (strings : List ℕ) → i < length ms
    → drop i (tokens_in ms strings)
    ≡ token_in (get_or ms i d) (take (string_length (get_or ms i d)) (drop (strings_length (take i ms)) strings)) ∷ drop (suc i) (tokens_in ms strings)
token-at i ms d strings low =
    let m = get_or ms i d in
    let before = strings_length (take i ms) in
    let front : List ℕ = take (string_length m) (drop before strings) in
    let rest : tokens_in (drop (suc i) ms) (drop (string_length m) (drop before strings)) ≡ drop (suc i) (tokens_in ms strings) =
    ap (tokens_in (drop (suc i) ms)) (drop-drop (string_length m) before strings ∙ ap (λ k. drop k strings) (sym (lengths-more i ms d low)))
    ∙ sym (tokens-drop (suc i) ms strings) in
    tokens-drop i ms strings ∙ ap (λ l. tokens_in l (drop before strings)) (mark-next i ms d low) ∙ ap (λ ts. token_in m front ∷ ts) rest
