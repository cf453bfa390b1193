-- What is read of a log that is closed.
use Rattle.std.proofs.Common.{◌≡◌, ◌≢◌, ℕ, ◌≤◌, List, [], ◌∷◌, ◌++◌, length, sym, ap, ◌∙◌, arith, length-append}
use Rattle.std.proofs.lemmas.List.{append-nil, take_all, nil_from_length}
use Rattle.std.specs.List.{AllByRecursion}
use Rattle.xs_keys.specs.Event.{Event}
use Rattle.xs_tape.specs.Records.{CanBeSpelled, spellings}
use Rattle.xs_tape.proofs.Firsts.{the-first}
use Rattle.xs_replay.specs.Log.{IsLog, HasEvents}
use Rattle.xs_log.specs.Reading.{IsPartOfLog, IsClosedLog}

closed-of : (number : ℕ) (bytes : List ℕ) (events : List Event) (requests : List (List (List ℕ))) (whole : ℕ) → whole ≡ length (spellings requests) → whole ≢ 0 → bytes ≡ spellings requests → AllByRecursion CanBeSpelled requests
    → IsLog number requests events → IsClosedLog number bytes events
closed-of number bytes events [] whole e some bytes_are can is = absurd (some e)
closed-of number bytes events (header ∷ records) whole e some bytes_are can is = record { header = header; records = records; bytes_are = bytes_are; spelled = can; is_log = is }

-- nothing follows the complete requests
pub closed : (number : ℕ) (bytes : List ℕ) (events : List Event) (whole part : ℕ) → HasEvents number bytes events whole part → whole ≢ 0 → part ≡ 0 → IsClosedLog number bytes events
closed number bytes events whole part has some none =
    let rest : has.rest ≡ [] = nil_from_length has.rest (sym has.part_is ∙ none) in
    closed-of number bytes events has.requests whole has.whole_is some (has.are.whole ∙ ap (λ r. spellings has.requests ++ r) rest ∙ append-nil (spellings has.requests)) has.are.spelled has.is_log

pub closed-part : (number : ℕ) (bytes : List ℕ) (events : List Event) → IsClosedLog number bytes events → IsPartOfLog number bytes
closed-part number bytes events is =
    record { requests = is.header ∷ is.records; events = events; more = []; spelled = is.spelled; is_log = is.is_log; written = append-nil bytes ∙ is.bytes_are }

-- a log that was written completely has a header and no part
pub closed-whole : (number : ℕ) (bytes : List ℕ) (events found : List Event) (whole part : ℕ) → IsClosedLog number bytes events → HasEvents number bytes found whole part → (whole ≢ 0) × (part ≡ 0)
closed-whole number bytes events found whole part is has =
    let requests = is.header ∷ is.records in
    let first = the-first requests bytes [] has.requests has.rest is.spelled (append-nil bytes ∙ is.bytes_are) has.are.whole has.are.spelled has.are.unfinished in
    let n = length requests in
    let all : n ≤ length has.requests = first.all n (omega arith) ([], ap (λ t. t ++ []) (ap spellings (take_all n requests (omega arith))) ∙ append-nil (spellings requests) ∙ sym is.bytes_are) in
    let same : has.requests ≡ requests = first.first ∙ take_all (length has.requests) requests all in
    let text = ap spellings same in
    (λ e. absurd (omega (arith, e, has.whole_is, ap length text)), omega (arith, has.part_is, ap length has.are.whole, length-append (spellings has.requests) has.rest, ap length text, ap length is.bytes_are))
