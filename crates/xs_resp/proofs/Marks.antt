-- Tokens that are appended, and tokens that are read in order.
use Rattle.std.proofs.Common.{◌≡◌, ℕ, ◌+◌, ◌<◌, ◌≤◌, get_or, append_assoc, add-one, subst, List, [], ◌∷◌, ◌++◌, length}
use Rattle.std.proofs.Common.{take, drop, refl, sym, ap, ◌∙◌, arith, length-append, length-drop}
use Rattle.std.proofs.Math.Seq.{drop-append_seam, take-length, take-suc}
use Rattle.std.proofs.lemmas.List.{take-append-le, drop-append-le, drop-drop, append-nil, take-append-drop}
use Rattle.std.proofs.lemmas.List.Concat.{flat_map-append}
use Rattle.std.specs.List.{flat_map}
use Rattle.xs_resp.specs.declared.mark.Mark.{Mark}
use Rattle.xs_resp.specs.ReplyText.{token_text}
use Rattle.xs_resp.specs.Marks.{string_length, strings_length, token_in, tokens_in}

pub lengths-append : (ms ns : List Mark) → strings_length (ms ++ ns) ≡ strings_length ms + strings_length ns
lengths-append [] ns = omega arith
lengths-append (m ∷ ms) ns = omega (arith, lengths-append ms ns)

-- the strings of the later tokens follow those of the earlier ones
pub tokens-append : (ms ns : List Mark) (strings : List ℕ)
    → tokens_in (ms ++ ns) strings ≡ tokens_in ms strings ++ tokens_in ns (drop (strings_length ms) strings)
tokens-append [] ns strings = refl
tokens-append (m ∷ ms) ns strings =
    let behind = drop (string_length m) strings in
    ap (λ ts. token_in m (take (string_length m) strings) ∷ ts) (tokens-append ms ns behind
    ∙ ap (λ rest. tokens_in ms behind ++ tokens_in ns rest) (drop-drop (strings_length ms) (string_length m) strings))

-- bytes after the strings belong to no token
pub tokens-within : (ms : List Mark) (strings more : List ℕ) → strings_length ms ≤ length strings
    → tokens_in ms (strings ++ more) ≡ tokens_in ms strings
tokens-within [] strings more fits = refl
tokens-within (m ∷ ms) strings more fits =
    let n = string_length m in
    let here : n ≤ length strings = omega (arith, fits) in
    let left : strings_length ms ≤ length (drop n strings) = omega (arith, fits, length-drop n strings) in
    rw (take-append-le n strings more here, drop-append-le n strings more here)
    (ap (λ ts. token_in m (take n strings) ∷ ts) (tokens-within ms (drop n strings) more left))

-- a token more, whose string follows the others
pub token-more : (ms : List Mark) (m : Mark) (strings string : List ℕ) → strings_length ms ≡ length strings → string_length m ≡ length string
    → tokens_in (ms ++ m ∷ []) (strings ++ string) ≡ tokens_in ms strings ++ token_in m string ∷ []
token-more ms m strings string fits is =
    let within : strings_length ms ≤ length strings = omega (arith, fits) in
    let behind : drop (strings_length ms) (strings ++ string) ≡ string =
    ap (λ n. drop n (strings ++ string)) fits ∙ drop-append_seam strings string in
    let whole : take (string_length m) (drop (strings_length ms) (strings ++ string)) ≡ string =
    ap (take (string_length m)) behind ∙ ap (λ n. take n string) is ∙ take-length string in
    tokens-append ms (m ∷ []) (strings ++ string)
    ∙ ap (λ ts. ts ++ token_in m (take (string_length m) (drop (strings_length ms) (strings ++ string))) ∷ []) (tokens-within ms strings string within)
    ∙ ap (λ bytes. tokens_in ms strings ++ token_in m bytes ∷ []) whole

pub lengths-more : (ms : List Mark) (m : Mark) (strings string : List ℕ) → strings_length ms ≡ length strings → string_length m ≡ length string
    → strings_length (ms ++ m ∷ []) ≡ length (strings ++ string)
lengths-more ms m strings string fits is = omega (arith, fits, is, lengths-append ms (m ∷ []), length-append strings string)

-- a token more that has no string
module _ (ms : List Mark) (m : Mark) (strings : List ℕ) (fits : strings_length ms ≡ length strings) (is : string_length m ≡ 0) where
  pub mark-more : tokens_in (ms ++ m ∷ []) strings ≡ tokens_in ms strings ++ token_in m [] ∷ []
  mark-more = subst (λ s. tokens_in (ms ++ m ∷ []) s ≡ tokens_in ms strings ++ token_in m [] ∷ []) (append-nil strings) (token-more ms m strings [] fits is)

  pub lengths-same : strings_length (ms ++ m ∷ []) ≡ length strings
  lengths-same = omega (arith, fits, is, lengths-append ms (m ∷ []))

-- ---- the tokens in order

module _ (ms : List Mark) (i : ℕ) (d : Mark) (strings : List ℕ) (low : i < length ms) where
  abbrev m : Mark
  m = get_or ms i d

  abbrev behind : List ℕ
  behind = drop (strings_length (take i ms)) strings

  token-next : tokens_in (take (i + 1) ms) strings ≡ tokens_in (take i ms) strings ++ token_in m (take (string_length m) behind) ∷ []
  token-next = rw (add-one, take-suc ms i d low) (tokens-append (take i ms) (m ∷ []) strings)

  length-next : strings_length (take (i + 1) ms) ≡ strings_length (take i ms) + string_length m
  length-next = rw (add-one, take-suc ms i d low) (omega (arith, lengths-append (take i ms) (m ∷ [])))

  pub fits-next : strings_length ms ≡ length strings → string_length m ≤ length behind
  fits-next fits =
      omega (arith, fits, length-next, length-drop (strings_length (take i ms)) strings, ap strings_length (take-append-drop (i + 1) ms), lengths-append (take (i + 1) ms) (drop (i + 1) ms))

  pub written-next : (before old new front rest : List ℕ) (n : ℕ) → old ≡ before ++ flat_map token_text (tokens_in (take i ms) strings) → rest ≡ behind → n ≡ string_length m
      → front ≡ take n rest → new ≡ old ++ token_text (token_in m front) → new ≡ before ++ flat_map token_text (tokens_in (take (i + 1) ms) strings)
  written-next before old new front rest n old_is rest_is n_is front_is new_is =
      let ts = tokens_in (take i ms) strings in
      let t = token_in m (take (string_length m) behind) in
      let cut : front ≡ take (string_length m) behind = front_is ∙ ap (λ k. take k rest) n_is ∙ ap (take (string_length m)) rest_is in
      let step : flat_map token_text ts ++ token_text (token_in m front) ≡ flat_map token_text (tokens_in (take (i + 1) ms) strings) =
      ap (λ f. flat_map token_text ts ++ token_text (token_in m f)) cut ∙ ap (λ w. flat_map token_text ts ++ w) (sym (append-nil (token_text t)))
      ∙ sym (flat_map-append token_text ts (t ∷ [])) ∙ ap (flat_map token_text) (sym token-next) in
      new_is ∙ ap (λ o. o ++ token_text (token_in m front)) old_is ∙ append_assoc before (flat_map token_text ts) (token_text (token_in m front)) ∙ ap (λ w. before ++ w) step

  pub behind-next : (rest later : List ℕ) (n : ℕ) → rest ≡ behind → n ≡ string_length m → later ≡ drop n rest → later ≡ drop (strings_length (take (i + 1) ms)) strings
  behind-next rest later n rest_is n_is later_is =
      later_is ∙ ap (λ k. drop k rest) n_is ∙ ap (drop (string_length m)) rest_is ∙ drop-drop (string_length m) (strings_length (take i ms)) strings ∙ ap (λ k. drop k strings) (sym length-next)
