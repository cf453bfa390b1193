-- Heads of records: there is at most one, and a beginning of a record that has as many bytes as a head has its head.
use Rattle.std.proofs.Common.{◌≡◌, ◌≢◌, inl, inr, ℕ, ◌+◌, ◌^◌, ◌<◌, ◌≤◌, List, [], ◌∷◌, ◌++◌, length, take, drop, suc, get_or, decimal, drop-cons, Option, Some, None, refl, sym, ap, ◌∙◌, subst, arith, append_assoc, length-append}
use Rattle.std.specs.Prelude.{IfSome, MatchOption}
use Rattle.std.proofs.lemmas.Fmt.{length-decimal-le}
use Rattle.std.proofs.lemmas.Bool.{cases_lt}
use Rattle.std.proofs.lemmas.List.{take_more, take-append-drop}
use Rattle.xs_resp.specs.Line.{crlf, line}
use Rattle.xs_resp.specs.Grammar.{HasNoCr, sent_words, spelling}
use Rattle.xs_resp.proofs.Numbers.{decimal-no-cr, value_of-decimal}
use Rattle.xs_resp.proofs.SentWords.{sent-split}
use Rattle.xs_bytes.specs.Number.{value_of}
use Rattle.xs_tape.specs.Records.{CanBeSpelled, with_size}
use Rattle.xs_tape.specs.Heads.{HasHead, MayBeCut, IsCut}
use Rattle.xs_tape.proofs.Sizes.{size-small}

-- ---- the place of the first CR

cr-append : (xs ys : List ℕ) → HasNoCr xs → HasNoCr ys → HasNoCr (xs ++ ys)
cr-append [] ys h k = k
cr-append (x ∷ xs) ys h k = (h.0, cr-append xs ys h.1 k)

pub no_cr_more : (text : List ℕ) (i : ℕ) → i < length text → HasNoCr (take i text) → get_or text i 0 ≢ 13 → HasNoCr (take (i + 1) text)
no_cr_more text i lt h ne = subst HasNoCr (sym (take_more text i 0 lt)) (cr-append (take i text) (get_or text i 0 ∷ []) h (ne, tt))

-- a text without CR ends at the first one
pub cr-split : (text other rest more : List ℕ) → HasNoCr text → HasNoCr other → text ++ (13 ∷ rest) ≡ other ++ (13 ∷ more) → (text ≡ other) × (rest ≡ more)
cr-split [] [] rest more h k e = (refl, cc)
cr-split [] (b ∷ other) rest more h k e = absurd (k.0 (cc))
cr-split (a ∷ text) [] rest more h k e = absurd (h.0 (cc))
cr-split (a ∷ text) (b ∷ other) rest more h k e =
    let head : a ≡ b = cc in
    let tail : text ++ (13 ∷ rest) ≡ other ++ (13 ∷ more) = cc in
    let same = cr-split text other rest more h.1 k.1 tail in
    (ap (λ x. x ∷ text) head ∙ ap (λ t. b ∷ t) same.0, same.1)

pub no-cr-at-all : (text front rest : List ℕ) → HasNoCr text → text ≢ front ++ (13 ∷ rest)
no-cr-at-all [] [] rest h e = absurd (cc)
no-cr-at-all [] (b ∷ front) rest h e = absurd (cc)
no-cr-at-all (a ∷ text) [] rest h e = absurd (h.0 (cc))
no-cr-at-all (a ∷ text) (b ∷ front) rest h e = no-cr-at-all text front rest h.1 (cc)

-- before the first CR is the number, and LF follows it
pub number_before : (text number-text behind : List ℕ) (at : ℕ) → at < length text → HasNoCr (take at text) → get_or text at 0 ≡ 13 → HasNoCr number-text → text ≡ number-text ++ (crlf ++ behind)
    → (take at text ≡ number-text) × (drop at text ≡ crlf ++ behind)
number_before text number-text behind at lt none cr no_cr e =
    let cr-first : drop at text ≡ 13 ∷ drop (suc at) text = drop-cons text at 0 lt ∙ ap (λ b. b ∷ drop (suc at) text) cr in
    let split : text ≡ take at text ++ (13 ∷ drop (suc at) text) =
    sym (take-append-drop at text) ∙ ap (λ t. take at text ++ t) cr-first in
    let same = cr-split (take at text) number-text (drop (suc at) text) (10 ∷ behind) none no_cr (sym split ∙ e) in
    (same.0, cr-first ∙ ap (λ t. 13 ∷ t) same.1)

-- ---- one head

pub decimal_same : (a b : ℕ) → a < 2 ^ 64 → b < 2 ^ 64 → decimal a ≡ decimal b → a ≡ b
decimal_same a b h k e = sym (value_of-decimal a h) ∙ ap value_of e ∙ value_of-decimal b k

pub number_once : (a b : ℕ) (rest more : List ℕ) → a < 2 ^ 64 → b < 2 ^ 64 → decimal a ++ (crlf ++ rest) ≡ decimal b ++ (crlf ++ more) → (a ≡ b) × (rest ≡ more)
number_once a b rest more h k e =
    let same = cr-split (decimal a) (decimal b) (10 ∷ rest) (10 ∷ more) (decimal-no-cr a h) (decimal-no-cr b k) e in
    let tail = same.1 in
    (decimal_same a b h k same.0, cc)

pub line-text : (marker n : ℕ) (rest : List ℕ) → line marker n ++ rest ≡ marker ∷ (decimal n ++ (crlf ++ rest))
line-text marker n rest = ap (λ t. marker ∷ t) (append_assoc (decimal n) crlf rest)

pub line_once : (marker a b : ℕ) (rest more : List ℕ) → a < 2 ^ 64 → b < 2 ^ 64 → line marker a ++ rest ≡ line marker b ++ more → (a ≡ b) × (rest ≡ more)
line_once marker a b rest more h k e =
    let whole = sym (line-text marker a rest) ∙ e ∙ line-text marker b more in
    let tail : decimal a ++ (crlf ++ rest) ≡ decimal b ++ (crlf ++ more) = cc (whole) in
    number_once a b rest more h k tail

pub head_once : (bytes : List ℕ) (size other : ℕ) (behind more : List ℕ) → HasHead bytes size behind → HasHead bytes other more → (size ≡ other) × (behind ≡ more)
head_once bytes size other behind more h k =
    let one = line_once 42 h.count k.count _ _ h.count_small k.count_small (sym h.whole ∙ k.whole) in
    let two = line_once 36 h.digits k.digits _ _ h.digits_small k.digits_small one.1 in
    number_once size other behind more h.size_small k.size_small two.1

-- if none was found, there is no line with a number
pub no_line : (marker number : ℕ) (rest behind : List ℕ) → ((n : ℕ) (more : List ℕ) → n < 2 ^ 64 → rest ≢ decimal n ++ (crlf ++ more)) → number < 2 ^ 64 → marker ∷ rest ≢ line marker number ++ behind
no_line marker number rest behind none small e =
    let whole = e ∙ line-text marker number behind in
    none number behind small (cc (whole))

-- there is no head if its second line, or its size, isn't found
pub no_second : (part words : List ℕ) (count size : ℕ) (behind : List ℕ) → count < 2 ^ 64 → part ≡ line 42 count ++ words → ((n : ℕ) (more : List ℕ) → n < 2 ^ 64 → words ≢ line 36 n ++ more) → HasHead part size behind → ⊥
no_second part words count size behind small e none h =
    let one = line_once 42 count h.count words _ small h.count_small (sym e ∙ h.whole) in
    none h.digits _ h.digits_small one.1

pub no_size : (part words text : List ℕ) (count digits size : ℕ) (behind : List ℕ) → count < 2 ^ 64 → digits < 2 ^ 64 → part ≡ line 42 count ++ words → words ≡ line 36 digits ++ text
    → ((n : ℕ) (more : List ℕ) → n < 2 ^ 64 → text ≢ decimal n ++ (crlf ++ more)) → HasHead part size behind → ⊥
no_size part words text count digits size behind small few e f none h =
    let one = line_once 42 count h.count words _ small h.count_small (sym e ∙ h.whole) in
    let two = line_once 36 digits h.digits text _ few h.digits_small (sym f ∙ one.1) in
    none size behind h.size_small two.1

-- the head that was found, line by line
pub found_head : (part words text : List ℕ) (count digits size : ℕ) (behind : List ℕ) → count < 2 ^ 64 → digits < 2 ^ 64 → size < 2 ^ 64 → part ≡ line 42 count ++ words → words ≡ line 36 digits ++ text
    → text ≡ decimal size ++ (crlf ++ behind) → HasHead part size behind
found_head part words text count digits size behind small few fits e f g = record {
  count = count;
  digits = digits;
  count_small = small;
  digits_small = few;
  size_small = fits;
  whole = e ∙ ap (λ t. line 42 count ++ t) (f ∙ ap (λ t. line 36 digits ++ t) g);
}

-- from a third line that was found to a head
pub head_found : {B : Type 0} (bytes_of : B → List ℕ) (found : Option (ℕ × B)) (part words text : List ℕ) (count digits : ℕ) → count < 2 ^ 64 → digits < 2 ^ 64 → part ≡ line 42 count ++ words → words ≡ line 36 digits ++ text
    → MatchOption found ((n : ℕ) (more : List ℕ) → n < 2 ^ 64 → text ≢ decimal n ++ (crlf ++ more)) (λ r. text ≡ decimal r.0 ++ (crlf ++ bytes_of r.1)) → IfSome found (λ r. r.0 < 2 ^ 64)
    → MatchOption found ((size : ℕ) (behind : List ℕ) → HasHead part size behind → ⊥) (λ r. HasHead part r.0 (bytes_of r.1))
head_found bytes_of None part words text count digits small few e f none fits = λ size behind h. no_size part words text count digits size behind small few e f none h
head_found bytes_of (Some r) part words text count digits small few e f is fits = found_head part words text count digits r.0 (bytes_of r.1) small few fits e f is

-- ---- the head of a record

abbrev pub head_text : ℕ → ℕ → ℕ → List ℕ
head_text count digits size = line 42 count ++ (line 36 digits ++ (decimal size ++ crlf))

head-with : (count digits size : ℕ) (behind : List ℕ) → head_text count digits size ++ behind ≡ line 42 count ++ (line 36 digits ++ (decimal size ++ (crlf ++ behind)))
head-with count digits size behind =
    append_assoc (line 42 count) (line 36 digits ++ (decimal size ++ crlf)) behind
    ∙ ap (λ t. line 42 count ++ t) (append_assoc (line 36 digits) (decimal size ++ crlf) behind ∙ ap (λ t. line 36 digits ++ t) (append_assoc (decimal size) crlf behind))

-- a record begins with its head
pub record-head : (words : List (List ℕ)) → CanBeSpelled (with_size words) → HasHead (spelling (with_size words)) (length (sent_words words)) (sent_words words)
record-head words can =
    let size = length (sent_words words) in
    let small = size-small words can in
    record {
      count = length (with_size words);
      digits = length (decimal size);
      count_small = omega (arith, can.number);
      digits_small = omega (arith, length-decimal-le 15 size (omega arith) (omega (arith, small)) (omega (arith, small)));
      size_small = omega (arith, small);
      whole = ap (λ t. line 42 (length (with_size words)) ++ t) (sent-split (decimal size) (sent_words words));
    }

head-short : (words : List (List ℕ)) → CanBeSpelled (with_size words) → length (head_text (length (with_size words)) (length (decimal (length (sent_words words)))) (length (sent_words words))) ≤ 32
head-short words can =
    let size = length (sent_words words) in
    let digits = length (decimal size) in
    let count = length (with_size words) in
    let small = size-small words can in
    let few : digits ≤ 15 = length-decimal-le 15 size (omega arith) (omega (arith, small)) (omega (arith, small)) in
    let first : length (decimal count) ≤ 7 = length-decimal-le 7 count (omega arith) (omega (arith, can.number)) (omega (arith, can.number)) in
    let second : length (decimal digits) ≤ 2 = length-decimal-le 2 digits (omega arith) (omega (arith, few)) (omega (arith, few)) in
    omega (
      arith,
      few,
      first,
      second,
      length-append (line 42 count) (line 36 digits ++ (decimal size ++ crlf)),
      length-append (decimal count) crlf,
      length-append (line 36 digits) (decimal size ++ crlf),
      length-append (decimal digits) crlf,
      length-append (decimal size) crlf,
    )

-- the front of a part, if the whole has it and the part is long enough
pub front-of : (part more front rest : List ℕ) → part ++ more ≡ front ++ rest → length front ≤ length part → (behind : List ℕ) × (part ≡ front ++ behind)
front-of part more [] rest e le = (part, refl)
front-of [] more (b ∷ front) rest e le = absurd (omega (arith, le))
front-of (a ∷ part) more (b ∷ front) rest e le =
    let one : a ≡ b = cc in
    let tail : part ++ more ≡ front ++ rest = cc in
    let found = front-of part more front rest tail (omega (arith, le)) in
    (found.0, ap (λ x. x ∷ part) one ∙ ap (λ t. b ∷ t) found.1)

-- a long part of a record has its head
pub cut_has_head : (part : List ℕ) → (cut : IsCut part) → 32 ≤ length part → (behind : List ℕ) × HasHead part (length (sent_words cut.words)) behind
unfolding record-head
cut_has_head part cut long =
    let words = cut.words in
    let size = length (sent_words words) in
    let count = length (with_size words) in
    let digits = length (decimal size) in
    let whole = record-head words cut.spelled in
    let joined : part ++ cut.more ≡ head_text count digits size ++ sent_words words = sym cut.whole ∙ whole.whole ∙ sym (head-with count digits size (sent_words words)) in
    let front = front-of part cut.more (head_text count digits size) (sent_words words) joined (omega (arith, head-short words cut.spelled, long)) in (
      front.0,
      record {
        count = count;
        digits = digits;
        count_small = whole.count_small;
        digits_small = whole.digits_small;
        size_small = whole.size_small;
        whole = front.1 ∙ head-with count digits size front.0;
      },
    )

some-length : (xs : List ℕ) → xs ≢ [] → 0 < length xs
some-length [] h = absurd (h refl)
some-length (x ∷ xs) h = omega arith

-- a head with more bytes after it
head-more : (part more : List ℕ) (size : ℕ) (behind : List ℕ) → HasHead part size behind → HasHead (part ++ more) size (behind ++ more)
head-more part more size behind h = record {
  count = h.count;
  digits = h.digits;
  count_small = h.count_small;
  digits_small = h.digits_small;
  size_small = h.size_small;
  whole =
      ap (λ t. t ++ more) (h.whole ∙ sym (head-with h.count h.digits size behind)) ∙ append_assoc (head_text h.count h.digits size) behind more
      ∙ head-with h.count h.digits size (behind ++ more);
}

-- fewer bytes follow the head of a part than its size
pub cut_is_short : (part : List ℕ) (size : ℕ) (behind : List ℕ) → IsCut part → HasHead part size behind → length behind < size
cut_is_short part size behind cut h =
    let words = cut.words in
    let there = subst (λ t. HasHead t (length (sent_words words)) (sent_words words)) cut.whole (record-head words cut.spelled) in
    let same = head_once (part ++ cut.more) size (length (sent_words words)) (behind ++ cut.more) (sent_words words) (head-more part cut.more size behind h) there in
    omega (arith, same.0, ap length same.1, length-append behind cut.more, some-length cut.more cut.some)

-- a part without a head is short
pub no_head_short : (part : List ℕ) → IsCut part → ((size : ℕ) (behind : List ℕ) → HasHead part size behind → ⊥) → length part < 32
no_head_short part cut none =
    elim (cases_lt (length part) 32) [
      | inl lt ↦ lt
      | inr le ↦ (let found = cut_has_head part cut le in absurd (none _ found.0 found.1))
    ]

-- the empty list is a beginning of a record
pub nothing_cut : IsCut []
nothing_cut = record {
  words = [];
  more = spelling (with_size []);
  spelled = record { number = omega arith; sizes = (omega (arith, length-decimal-le 1 0 (omega arith) (omega arith) (omega arith)), tt) };
  whole = refl;
  some = λ e. absurd (cc (e));
}

-- if a head is followed by as many bytes as its size, nothing was cut
pub not_cut : (part : List ℕ) (size : ℕ) (behind : List ℕ) → HasHead part size behind → size ≤ length behind → 32 ≤ length part → MayBeCut part → ⊥
not_cut part size behind h all long (inl short) = absurd (omega (arith, short, long))
not_cut part size behind h all long (inr found) =
    let same = head_once part size found.0 behind found.1 h found.2 in
    absurd (omega (arith, same.0, ap length same.1, found.3, all))
