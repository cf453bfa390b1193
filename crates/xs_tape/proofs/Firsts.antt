-- The first bytes of some requests are the first of the requests, and a part of the next one.
use Rattle.std.proofs.Common.{◌≡◌, inl, ℕ, ◌≤◌, zero, suc, List, [], ◌∷◌, ◌++◌, length, take, Some, None, Ok}
use Rattle.std.proofs.Common.{refl, sym, ap, ◌∙◌, arith, append_assoc}
use Rattle.std.proofs.lemmas.List.{append_cancel_left}
use Rattle.std.specs.List.{AllByRecursion}
use mathlib.Core.List.{IsPrefix}
use Rattle.xs_resp.specs.Reading.{Found, request}
use Rattle.xs_resp.specs.Grammar.{spelling, Spells}
use Rattle.xs_resp.proofs.Decisions.{spelled-read}
use Rattle.xs_tape.specs.Records.{CanBeSpelled, spellings, AreTheFirst}

is-spelled : (words : List (List ℕ)) → CanBeSpelled words → Spells (spelling words) words
is-spelled words can = record { number = can.number; sizes = can.sizes; spelled = inl refl }

-- the request at the front of a spelling
pub spelling-found : (words : List (List ℕ)) (rest : List ℕ) → CanBeSpelled words → request (spelling words ++ rest) ≡ Ok (Some (record { words = words; end = length (spelling words) }))
spelling-found words rest can = spelled-read (spelling words) words rest (is-spelled words can)

-- no spelling is a proper prefix of another
pub same-front : (words others : List (List ℕ)) (rest more : List ℕ) → CanBeSpelled words → CanBeSpelled others → spelling words ++ rest ≡ spelling others ++ more → (words ≡ others) × (rest ≡ more)
same-front words others rest more can may e =
    let one = spelling-found words rest can in
    let other = spelling-found others more may in
    let found : record { words = words; end = length (spelling words) } ≡ record { words = others; end = length (spelling others) } = cc (ap request e) in
    let same : words ≡ others = ap (λ (f : Found). f.words) found in
    (same, append_cancel_left (spelling words) rest more (e ∙ ap (λ w. spelling w ++ more) (sym same)))

-- a part of a request has no complete request
none-whole : (written : List (List (List ℕ))) (bytes : List ℕ) → AllByRecursion CanBeSpelled written → request bytes ≡ Ok None → (n : ℕ) → n ≤ length written → IsPrefix (spellings (take n written)) bytes → n ≤ 0
none-whole written bytes can e zero le front = omega arith
none-whole [] bytes can e (suc n) le front = absurd (omega arith)
none-whole (words ∷ written) bytes can e (suc n) le front =
    let others = spellings (take n written) in
    let whole : request bytes ≡ Ok (Some (record { words = words; end = length (spelling words) })) =
    ap request (sym front.1 ∙ append_assoc (spelling words) others front.0) ∙ spelling-found words (others ++ front.0) can.0 in
    absurd (cc)

-- one more request is complete
one-more : (first : List (List ℕ)) (written : List (List (List ℕ))) (bytes behind : List ℕ) (count : ℕ) → bytes ≡ spelling first ++ behind
    → ((m : ℕ) → m ≤ length written → IsPrefix (spellings (take m written)) behind → m ≤ count)
    → (n : ℕ) → n ≤ length (first ∷ written) → IsPrefix (spellings (take n (first ∷ written))) bytes → n ≤ suc count
one-more first written bytes behind count split all zero le front = omega arith
one-more first written bytes behind count split all (suc n) le front =
    let others = spellings (take n written) in
    let is : others ++ front.0 ≡ behind = append_cancel_left (spelling first) (others ++ front.0) behind (sym (append_assoc (spelling first) others front.0) ∙ front.1 ∙ split) in
    let few : n ≤ count = all n (omega (arith, le)) (front.0, is) in
    omega (arith, few)

pub the-first : (written : List (List (List ℕ))) (bytes more : List ℕ) (requests : List (List (List ℕ))) (part : List ℕ) → AllByRecursion CanBeSpelled written → bytes ++ more ≡ spellings written
    → bytes ≡ spellings requests ++ part → AllByRecursion CanBeSpelled requests → request part ≡ Ok None → AreTheFirst written bytes requests
the-first written bytes more [] part can e whole may none =
    record { within = omega arith; first = refl; all = λ n le front. none-whole written bytes can (ap request whole ∙ none) n le front }
the-first [] bytes more (words ∷ requests) part can e whole may none = absurd (cc (e, whole))
the-first (first ∷ written) bytes more (words ∷ requests) part can e whole may none =
    let behind = spellings requests ++ part in
    let split : bytes ≡ spelling words ++ behind = whole ∙ append_assoc (spelling words) (spellings requests) part in
    let joined : spelling words ++ (behind ++ more) ≡ spelling first ++ spellings written = sym (append_assoc (spelling words) behind more) ∙ ap (λ b. b ++ more) (sym split) ∙ e in
    let same = same-front words first (behind ++ more) (spellings written) may.0 can.0 joined in
    let rest = the-first written behind more requests part can.1 same.1 refl may.1 none in
    record {
      within = omega (arith, rest.within);
      first = ap (λ w. w ∷ requests) same.0 ∙ ap (λ rs. first ∷ rs) rest.first;
      all = one-more first written bytes behind (length requests) (split ∙ ap (λ w. spelling w ++ behind) same.0) rest.all;
    }
