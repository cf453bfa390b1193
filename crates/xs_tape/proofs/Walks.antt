-- Words and bytes, one after the other, as loops go over them.
use Rattle.std.proofs.Common.{◌≡◌, ◌≢◌, ◌⊎◌, inl, inr, ℕ, ◌+◌, ◌<◌, ◌≤◌, zero, suc, List, [], ◌∷◌, ◌++◌, length, take, drop, map, get_or, true, false}
use Rattle.std.proofs.Common.{refl, sym, ap, ◌∙◌, subst, arith, eqb, length-append, append_assoc}
use Rattle.std.proofs.lemmas.List.{take_more, append-nil, map-append, take-take, take-append-drop, length-take-le}
use Rattle.std.proofs.lemmas.List.Concat.{flat_map-append}
use Rattle.std.proofs.lemmas.Bool.{cond-true, cond-false, eq-eqb, ne_eqb}
use Rattle.xs_resp.specs.HeaderPart.{limit}
use Rattle.xs_resp.specs.declared.header.Part.TheVariants.{Size}
use Rattle.xs_resp.specs.Grammar.{sent_word, sent_words, AreSizes}
use Rattle.xs_tape.specs.Escape.{escape, escaped}
use Rattle.std.specs.Prelude.{Bool, Option, None, Some}
use Rattle.std.specs.Io.KnownBytes.{Consumes, IsAtEnd}
use Rattle.xs_tape.specs.BeforeZero.{rest_before}
use Rattle.xs_tape.specs.Crash.{HasNoZero, before_zero}
use Rattle.xs_tape.proofs.Escapes.{ways, escape-first, escaped-append}
use Rattle.xs_tape.proofs.Zeros.{zero-append}

pub escaped_more : (word : List ℕ) (i : ℕ) → i < length word → escaped (take (i + 1) word) ≡ escaped (take i word) ++ escape (get_or word i 0)
escaped_more word i lt =
    ap escaped (take_more word i 0 lt) ∙ escaped-append (take i word) (get_or word i 0 ∷ []) ∙ ap (λ b. escaped (take i word) ++ b) (append-nil (escape (get_or word i 0)))

pub escape_long : (byte : ℕ) → 0 < length (escape byte)
escape_long byte =
    elim (ways byte).way [
      | inl a ↦ omega (arith, ap length a.1)
      | inr b ↦ elim b [ inl a ↦ omega (arith, ap length a.1) | inr a ↦ omega (arith, ap length a.2) ]
    ]

pub escape_two : (byte : ℕ) → byte ≤ 1 → length (escape byte) ≡ 2
escape_two byte le =
    elim (ways byte).way [
      | inl a ↦ ap length a.1
      | inr b ↦ elim b [ inl a ↦ ap length a.1 | inr a ↦ absurd (few byte le a.0 a.1) ]
    ]
  where
    few : (byte : ℕ) → byte ≤ 1 → byte ≢ 0 → byte ≢ 1 → ⊥
    few zero le a b = a refl
    few (suc zero) le a b = b refl
    few (suc (suc n)) le a b = absurd (omega arith)

pub escape_single : (byte : ℕ) → 1 < byte → length (escape byte) ≡ 1
escape_single byte lt =
    elim (ways byte).way [
      | inl a ↦ absurd (omega (arith, a.0))
      | inr b ↦ elim b [ inl a ↦ absurd (omega (arith, a.0)) | inr a ↦ ap length a.2 ]
    ]

-- what follows a part of an escaped word is an escaped word
pub escaped-rest : (word done rest : List ℕ) → escaped word ≡ escaped done ++ rest → (more : List ℕ) × (rest ≡ escaped more)
escaped-rest word [] rest e = (word, sym e)
escaped-rest [] (d ∷ done) rest e = absurd (omega (arith, ap length e, length-append (escape d ++ escaped done) rest, length-append (escape d) (escaped done), escape_long d))
escaped-rest (w ∷ word) (d ∷ done) rest e =
    let first = escape-first w d (escaped word) (escaped done ++ rest) (e ∙ append_assoc (escape d) (escaped done) rest) in
    escaped-rest word done rest first.1

-- a word that continues what was read has a first byte
pub no_word : (text done rest : List ℕ) → text ≡ escaped done ++ rest → rest ≢ [] → ((byte : ℕ) (more : List ℕ) → rest ≢ escape byte ++ more) → (word : List ℕ) → text ≢ escaped word
no_word text done rest e some none word is =
    let behind = escaped-rest word done rest (sym is ∙ e) in
    never behind.0 behind.1
  where
    never : (more : List ℕ) → rest ≡ escaped more → ⊥
    never [] f = some f
    never (byte ∷ more) f = none byte (escaped more) f

pub sizes-append : (xs ys : List (List ℕ)) → AreSizes xs → AreSizes ys → AreSizes (xs ++ ys)
sizes-append [] ys h k = k
sizes-append (x ∷ xs) ys h k = (h.0, sizes-append xs ys h.1 k)

pub sizes_more : (words : List (List ℕ)) (i : ℕ) → i < length words → AreSizes (map escaped (take i words)) → length (escaped (get_or words i [])) ≤ limit Size → AreSizes (map escaped (take (i + 1) words))
sizes_more words i lt h le =
    subst AreSizes (sym (ap (map escaped) (take_more words i [] lt) ∙ map-append escaped (take i words) (get_or words i [] ∷ []))) (sizes-append (map escaped (take i words)) (escaped (get_or words i []) ∷ []) h (le, tt))

pub sent_more : (words : List (List ℕ)) (i : ℕ) → i < length words → sent_words (map escaped (take (i + 1) words)) ≡ sent_words (map escaped (take i words)) ++ sent_word (escaped (get_or words i []))
sent_more words i lt =
    let word = escaped (get_or words i []) in
    ap (λ ws. sent_words (map escaped ws)) (take_more words i [] lt) ∙ ap sent_words (map-append escaped (take i words) (get_or words i [] ∷ []))
    ∙ flat_map-append sent_word (map escaped (take i words)) (word ∷ []) ∙ ap (λ b. sent_words (map escaped (take i words)) ++ b) (append-nil (sent_word word))

pub sent_split : (words : List (List ℕ)) (n : ℕ) → sent_words (map escaped (take n words)) ++ sent_words (map escaped (drop n words)) ≡ sent_words (map escaped words)
sent_split words n =
    sym (flat_map-append sent_word (map escaped (take n words)) (map escaped (drop n words))) ∙ ap sent_words (sym (map-append escaped (take n words) (drop n words)) ∙ ap (map escaped) (take-append-drop n words))

-- the first zero
pub no_zero_more : (bytes : List ℕ) (i : ℕ) → i < length bytes → HasNoZero (take i bytes) → get_or bytes i 0 ≢ 0 → HasNoZero (take (i + 1) bytes)
no_zero_more bytes i lt h ne = subst HasNoZero (sym (take_more bytes i 0 lt)) (zero-append (take i bytes) (get_or bytes i 0 ∷ []) h (ne, tt))

pub before_zero_at : (bytes : List ℕ) (i : ℕ) → i < length bytes → HasNoZero (take i bytes) → get_or bytes i 0 ≡ 0 → before_zero bytes ≡ take i bytes
before_zero_at [] i lt h e = absurd (omega arith)
before_zero_at (b ∷ bytes) zero lt h e = cond-true (eqb b 0) _ _ (eq-eqb b 0 e)
before_zero_at (b ∷ bytes) (suc i) lt h e = cond-false (eqb b 0) _ _ (ne_eqb b 0 h.0) ∙ ap (λ f. b ∷ f) (before_zero_at bytes i (omega (arith, lt)) h.1 e)

pub before_zero_none : (bytes rest : List ℕ) → HasNoZero bytes → before_zero (bytes ++ rest) ≡ bytes ++ before_zero rest
before_zero_none [] rest h = refl
before_zero_none (b ∷ bytes) rest h = cond-false (eqb b 0) _ _ (ne_eqb b 0 h.0) ∙ ap (λ f. b ∷ f) (before_zero_none bytes rest h.1)

-- if there is a zero in the first bytes, those after them don't matter
pub before_zero_met : (bytes rest : List ℕ) (i : ℕ) → i < length bytes → HasNoZero (take i bytes) → before_zero bytes ≡ take i bytes → before_zero (bytes ++ rest) ≡ take i bytes
before_zero_met [] rest i lt h e = absurd (omega arith)
before_zero_met (b ∷ bytes) rest zero lt h e =
    elim (Rattle.std.proofs.lemmas.Bool.cases_eq b 0) [
      | inl z ↦ cond-true (eqb b 0) _ _ (eq-eqb b 0 z)
      | inr n ↦ absurd (never (sym (cond-false (eqb b 0) _ _ (ne_eqb b 0 n)) ∙ e))
    ]
  where
    never : b ∷ before_zero bytes ≡ [] → ⊥
    never f = absurd (cc)
before_zero_met (b ∷ bytes) rest (suc i) lt h e =
    let more = sym (cond-false (eqb b 0) [] (b ∷ before_zero bytes) (ne_eqb b 0 h.0)) ∙ e in
    let tail : before_zero bytes ≡ take i bytes = cc in
    cond-false (eqb b 0) _ _ (ne_eqb b 0 h.0) ∙ ap (λ f. b ∷ f) (before_zero_met bytes rest i (omega (arith, lt)) h.1 tail)

-- a byte more of a word
pub whole_rest : (text done next rest behind : List ℕ) (byte : ℕ) → text ≡ escaped done ++ rest → rest ≡ escape byte ++ behind → next ≡ done ++ byte ∷ [] → text ≡ escaped next ++ behind
whole_rest text done next rest behind byte e f n =
    e ∙ ap (λ b. escaped done ++ b) f ∙ sym (append_assoc (escaped done) (escape byte) behind)
    ∙ ap (λ b. (escaped done ++ b) ++ behind) (sym (append-nil (escape byte)))
    ∙ ap (λ b. b ++ behind) (sym (escaped-append done (byte ∷ [])))
    ∙ ap (λ w. escaped w ++ behind) (sym n)

-- a read returns the bytes before the first zero
pub record Met (into : List ℕ) (count given : ℕ) : Type 0 where
  pub within : given < length (take count into)
  pub none : HasNoZero (take given (take count into))
  pub front_is : before_zero (take count into) ≡ take given (take count into)

pub given_bytes : (first : Bool) (old new : Option (List ℕ)) (into : List ℕ) (count given : ℕ) (met : Bool) → first ≡ false
    → Consumes old new (take count into) → (count ≡ 0 → 0 < length into → IsAtEnd new) → count ≤ length into
    → ((met ≡ true) × Met into count given) ⊎ ((met ≡ false) × (given ≡ count) × HasNoZero (take count into))
    → Consumes (rest_before first old) (rest_before met new) (take given into) × (given ≡ 0 → 0 < length into → IsAtEnd (rest_before met new))
given_bytes true old new into count given met f consumes end le how = absurd (cc)
given_bytes false None new into count given met f consumes end le how = (tt, none-left met new how end)
  where
    none-left : (met : Bool) (new : Option (List ℕ)) → ((met ≡ true) × Met into count given) ⊎ ((met ≡ false) × (given ≡ count) × HasNoZero (take count into)) → (count ≡ 0 → 0 < length into → IsAtEnd new) → (given ≡ 0 → 0 < length into → IsAtEnd (rest_before met new))
    none-left met None how end = λ z room. none-of met
      where
        none-of : (met : Bool) → IsAtEnd (rest_before met None)
        none-of true = tt
        none-of false = tt
    none-left true (Some ys) how end = λ z room. refl
    none-left false (Some ys) how end = λ z room. ap before_zero (end (same-count how ∙ z) room)
      where
        same-count : ((false ≡ true) × Met into count given) ⊎ ((false ≡ false) × (given ≡ count) × HasNoZero (take count into)) → count ≡ given
        same-count (inl a) = absurd (cc (a.0))
        same-count (inr b) = sym b.1
given_bytes false (Some xs) None into count given met f consumes end le how = absurd consumes
given_bytes false (Some xs) (Some ys) into count given true f consumes end le (inl a) =
    (ap before_zero consumes ∙ before_zero_met (take count into) ys given (a.1).within (a.1).none (a.1).front_is ∙ short ∙ sym (append-nil (take given into)), λ z room. refl)
  where
    short : take given (take count into) ≡ take given into
    short = take-take given count into (omega (arith, (a.1).within, length-take-le count into le))
given_bytes false (Some xs) (Some ys) into count given true f consumes end le (inr b) = absurd (cc (b.0))
given_bytes false (Some xs) (Some ys) into count given false f consumes end le (inl a) = absurd (cc (a.0))
given_bytes false (Some xs) (Some ys) into count given false f consumes end le (inr b) =
    (ap before_zero consumes ∙ before_zero_none (take count into) ys b.2 ∙ ap (λ n. take n into ++ before_zero ys) (sym b.1), λ z room. ap before_zero (end (sym b.1 ∙ z) room))
