-- How words and requests are read from the front of some bytes.
use Rattle.std.specs.Prelude.{◌≡◌, ℕ, ◌+◌, ◌-◌, ◌==◌, List, [], ◌∷◌, ◌++◌, take, drop, zero, suc, Some, None, Ok, Err}
use Rattle.std.specs.Prelude.{if◌then◌else◌}
use Rattle.xs_resp.specs.declared.header.Part.TheVariants.{Count, Size}
use Rattle.xs_resp.specs.declared.word.Span.{Span}
use Rattle.xs_resp.specs.declared.read_fault.ProtocolFault.TheVariants.{Shape}
use Rattle.xs_resp.specs.Outcome.{Outcome, ◌>>=◌}
use Rattle.xs_resp.specs.Header.{header}

-- words, and the index after them
pub record Found : Type 0 where
  pub words : List (List ℕ)
  pub end : ℕ

-- the span from start to end, if CR LF follows it
abbrev pub span_before_crlf : ℕ → ℕ → List ℕ → Outcome Span
span_before_crlf start end [] = Ok None
span_before_crlf start end (cr ∷ []) = if cr == 13 then Ok None else Err Shape
span_before_crlf start end (cr ∷ lf ∷ rest) =
    if cr == 13 then (if lf == 10 then Ok (Some (record { start = start; end = end })) else Err Shape) else Err Shape

-- a header, that many bytes, and CR LF
unfoldable pub bulk_string : List ℕ → Outcome Span
bulk_string bytes = header Size bytes >>= λ h. span_before_crlf h.end (h.end + h.number) (drop (h.end + h.number) bytes)

-- the bytes of a word
abbrev pub text_in : List ℕ → Span → List ℕ
text_in bytes span = take (span.end - span.start) (drop span.start bytes)

-- what is read after these words, which end at this index
abbrev pub behind_words : List (List ℕ) → ℕ → Outcome Found → Outcome Found
behind_words words end rest =
    rest >>= λ found. Ok (Some (record { words = words ++ found.words; end = end + found.end }))

-- this many words
unfoldable pub words : ℕ → List ℕ → Outcome Found
words zero bytes = Ok (Some (record { words = []; end = 0 }))
words (suc n) bytes =
    bulk_string bytes >>= λ span.
    behind_words (text_in bytes span ∷ []) (span.end + 2) (words n (drop (span.end + 2) bytes))

-- a request: a header, and that many words
unfoldable pub request : List ℕ → Outcome Found
request bytes = header Count bytes >>= λ h. behind_words [] h.end (words h.number (drop h.end bytes))

-- a complete request was read, or all of its words
abbrev pub IsWhole : Outcome Found → Type 0
IsWhole outcome = (found : Found) × (outcome ≡ Ok (Some found))

-- the words that were read; none if there were none
abbrev pub words_in : Outcome Found → List (List ℕ)
words_in (Ok (Some found)) = found.words
words_in (Ok None) = []
words_in (Err wrong) = []
