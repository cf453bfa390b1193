-- What is left of a reply that is written in pieces.
use Rattle.std.proofs.Common.{◌≡◌, ℕ, zero, suc, ◌+◌, Bool, true, false, List, [], ◌∷◌, ◌++◌, length, take, drop, refl}
use Rattle.std.proofs.Common.{sym, ap, ◌∙◌, ◌<◌, add-one, append_assoc, arith, length-append}
use Rattle.std.proofs.lemmas.List.{append-nil}
use Rattle.std.specs.List.{flat_map}
use Rattle.xs_resp.specs.Token.{Token, Simple, Error, ErrorText, Int, Bulk, NullBulk, Array, NullArray}
use Rattle.xs_resp.specs.ReplyText.{token_text}
use Rattle.xs_resp.specs.Line.{crlf}
use Rattle.xs_resp.specs.LeftToWrite.{bytes_left, left_of, pieces, string_of, strings_of, HasString}

pub left-pieces : (gathered : List ℕ) (lent : Bool) (tokens : List Token) → bytes_left (pieces gathered lent tokens) ≡ gathered ++ left_of lent tokens
left-pieces [] true [] = refl
left-pieces [] true (t ∷ ts) = simp append_assoc
left-pieces [] false ts = refl
left-pieces (b ∷ bs) lent ts = refl

pub behind-whole : (gathered : List ℕ) (tokens : List Token) → (pieces gathered false tokens).behind ≡ flat_map token_text tokens
behind-whole [] ts = refl
behind-whole (b ∷ bs) ts = refl

strings-more : (i : ℕ) (tokens ts : List Token) (t : Token) → drop i tokens ≡ t ∷ ts → strings_of (take (suc i) tokens) ≡ strings_of (take i tokens) ++ string_of t
strings-more zero [] ts t is = cc
strings-more zero (u ∷ us) ts t is =
    let same : u ≡ t = cc in
    append-nil (string_of u) ∙ ap string_of same
strings-more (suc i) [] ts t is = cc
strings-more (suc i) (u ∷ us) ts t is =
    ap (λ s. string_of u ++ s) (strings-more i us ts t is) ∙ sym (append_assoc (string_of u) (strings_of (take i us)) (string_of t))

-- after a token the strings are longer by its own
pub strings-next : (i at next end : ℕ) (tokens ts : List Token) (t : Token) (string : List ℕ) → at ≡ length (strings_of (take i tokens)) → drop i tokens ≡ t ∷ ts
    → string_of t ≡ string → next ≡ i + 1 → end ≡ at + length string → end ≡ length (strings_of (take next tokens))
strings-next i at next end tokens ts t string at_is is string_is next_is end_is =
    rw (next_is, add-one, strings-more i tokens ts t is)
    (omega (arith, at_is, end_is, ap length string_is, length-append (strings_of (take i tokens)) (string_of t)))

-- a token that is written completely
pub text-next : (i next : ℕ) (tokens : List Token) (t : Token) (old new all : List ℕ) → drop i tokens ≡ t ∷ drop (i + 1) tokens → next ≡ i + 1
    → old ++ flat_map token_text (drop i tokens) ≡ all → new ≡ old ++ token_text t → new ++ flat_map token_text (drop next tokens) ≡ all
text-next i next tokens t old new all is next_is so_far new_is =
    let rest = flat_map token_text (drop (i + 1) tokens) in
    rw (new_is, next_is) (append_assoc old (token_text t) rest ∙ ap (λ ts. old ++ flat_map token_text ts) (sym is) ∙ so_far)

-- what is gathered is all that is left, if nothing follows it
pub gathered-alone : (gathered : List ℕ) (lent : Bool) (tokens : List Token) → (pieces gathered lent tokens).behind ≡ [] → gathered ≡ bytes_left (pieces gathered lent tokens)
gathered-alone [] true [] none = refl
gathered-alone [] true (t ∷ ts) none = cc
gathered-alone [] false ts none = sym none
gathered-alone (b ∷ bs) lent ts none = sym (append-nil (b ∷ bs)) ∙ ap (λ l. (b ∷ bs) ++ l) (sym none)

some-append : (a b : List ℕ) → 0 < length a → a ++ b ≡ [] → ⊥
some-append [] b some none = omega (arith, some)
some-append (x ∷ xs) b some none = cc

-- more follows a piece if a string is lent
pub more-lent : (gathered : List ℕ) (tokens : List Token) → HasString tokens → (pieces gathered true tokens).behind ≡ [] → ⊥
more-lent gathered [] string none = string
more-lent [] (t ∷ ts) string none = cc
more-lent (b ∷ bs) (t ∷ ts) string none = some-append (string_of t ++ crlf) (flat_map token_text ts) (omega (arith, string, length-append (string_of t) crlf)) none

text-some : (t : Token) (more : List ℕ) → token_text t ++ more ≡ [] → ⊥
text-some (Simple s) more none = cc
text-some (Error f) more none = cc
text-some (ErrorText bytes) more none = cc
text-some (Int n) more none = cc
text-some (Bulk bytes) more none = cc
text-some NullBulk more none = cc
text-some (Array n) more none = cc
text-some NullArray more none = cc

-- or if a token is left
pub more-left : (gathered : List ℕ) (tokens : List Token) → 0 < length tokens → (pieces gathered false tokens).behind ≡ [] → ⊥
more-left gathered [] some none = omega (arith, some)
more-left gathered (t ∷ ts) some none = text-some t (flat_map token_text ts) (sym (behind-whole gathered (t ∷ ts)) ∙ none)
