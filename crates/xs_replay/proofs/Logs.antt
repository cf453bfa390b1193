-- Logs and their events.
use Rattle.std.proofs.Common.{◌≡◌, ℕ, ◌≤◌, ◌+◌, zero, suc, List, [], ◌∷◌, ◌++◌, length, take, drop, map, decimal, Ok, codes}
use Rattle.std.proofs.Common.{refl, sym, ap, ◌∙◌, subst, arith}
use Rattle.std.proofs.lemmas.List.{take-append-drop, take_at}
use Rattle.std.proofs.lemmas.List.Concat.{flat_map-append}
use Rattle.std.proofs.lemmas.Fmt.{decimal_injective}
use Rattle.std.specs.List.{AllByRecursion}
use Rattle.xs_command.specs.Read.{command_of_words}
use Rattle.xs_keys.specs.Event.{Event}
use Rattle.xs_tape.specs.Crash.{before_zero, CrashLeaves}
use Rattle.xs_tape.specs.Records.{CanBeSpelled, CanBeLogged, with_checksum, record_words, spellings, AreTheFirst}
use Rattle.xs_resp.specs.Grammar.{spelling}
use Rattle.xs_tape.specs.Escape.{escaped}
use Rattle.xs_tape.proofs.Escapes.{escaped-all}
use Rattle.xs_tape.proofs.Zeros.{spellings-no-zero, record-logged}
use Rattle.xs_tape.proofs.Crashes.{before_zero-written, before_zero-kept}
use Rattle.xs_tape.proofs.Firsts.{the-first}
use Rattle.xs_replay.specs.Log.{model_number, IsRecordOf, AreRecordsOf, IsLog, HasEvents}

-- the words after the checksum
pub same-plain : (first other : List ℕ) (plain others : List (List ℕ)) → record_words first plain ≡ record_words other others → (first ≡ other) × (plain ≡ others)
same-plain first other plain others e =
    let words : map escaped (with_checksum first plain) ≡ map escaped (with_checksum other others) = cc in
    let same : with_checksum first plain ≡ with_checksum other others = escaped-all (with_checksum first plain) (with_checksum other others) words in
    (cc, cc)

-- a record is of one event
pub one-event : (words : List (List ℕ)) (one other : Event) → IsRecordOf words one → IsRecordOf words other → one ≡ other
one-event words one other a b =
    let same = same-plain (decimal one.0) (decimal other.0) a.plain b.plain (sym a.stands ∙ b.stands) in
    let moment : one.0 ≡ other.0 = decimal_injective one.0 other.0 (omega (arith, a.small)) (omega (arith, b.small)) same.0 in
    let commands : Ok one.1 ≡ Ok other.1 = sym a.command_is ∙ ap command_of_words same.1 ∙ b.command_is in
    let command : one.1 ≡ other.1 = cc in
    ap (λ m. (m, one.1)) moment ∙ ap (λ k. (other.0, k)) command

-- the first records are of the first events
first-events : (records : List (List (List ℕ))) (events : List Event) (count : ℕ) (found : List Event) → AreRecordsOf records events → count ≤ length records → AreRecordsOf (take count records) found
    → (length found ≡ count) × (found ≡ take count events) × (count ≤ length events)
first-events records events zero [] are le is = (refl, refl, omega arith)
first-events records events zero (e ∷ found) are le is = absurd is
first-events [] events (suc count) found are le is = absurd (omega arith)
first-events (words ∷ records) [] (suc count) found are le is = absurd are
first-events (words ∷ records) (e ∷ events) (suc count) [] are le is = absurd is
first-events (words ∷ records) (e ∷ events) (suc count) (f ∷ found) are le is =
    let more = first-events records events count found are.1 (omega (arith, le)) is.1 in
    (ap (λ n. suc n) more.0, ap (λ x. x ∷ found) (one-event words f e is.0 are.0) ∙ ap (λ es. e ∷ es) more.1, omega (arith, more.2))

-- a log may have these words
record-may : (words : List (List ℕ)) (event : Event) → IsRecordOf words event → CanBeSpelled words → CanBeLogged words
record-may words event is can =
    subst CanBeLogged (sym is.stands) (record-logged (decimal event.0) is.plain (subst CanBeSpelled is.stands can))

records-may : (records : List (List (List ℕ))) (events : List Event) → AreRecordsOf records events → AllByRecursion CanBeSpelled records → AllByRecursion CanBeLogged records
records-may [] [] are can = tt
records-may [] (e ∷ events) are can = absurd are
records-may (words ∷ records) [] are can = absurd are
records-may (words ∷ records) (e ∷ events) are can = (record-may words e are.0 can.0, records-may records events are.1 can.1)

pub log-may : (number : ℕ) (requests : List (List (List ℕ))) (events : List Event) → IsLog number requests events → AllByRecursion CanBeSpelled requests → AllByRecursion CanBeLogged requests
log-may number [] events is can = tt
log-may number (header ∷ records) events is can =
    let rest = codes "2" ∷ decimal number ∷ decimal model_number ∷ [] in
    (subst CanBeLogged (sym is.0) (record-logged (codes "xs-log") rest (subst CanBeSpelled is.0 can.0)), records-may records events is.1 can.1)

-- the text of the first requests is at the front
texts-split : (requests : List (List (List ℕ))) (n : ℕ) → spellings requests ≡ spellings (take n requests) ++ spellings (drop n requests)
texts-split requests n = ap spellings (sym (take-append-drop n requests)) ∙ flat_map-append spelling (take n requests) (drop n requests)

-- the events that are found in a log
found-events : (number : ℕ) (requests : List (List (List ℕ))) (events : List Event) (count : ℕ) (found : List Event) → IsLog number requests events → count ≤ length requests → IsLog number (take count requests) found
    → (length found ≤ length events) × (found ≡ take (length found) events) × (count ≤ length found + 1)
found-events number requests events zero found is le left = (omega (arith, ap length left), left ∙ sym (ap (λ f. take (length f) events) left), omega arith)
found-events number [] events (suc count) found is le left = absurd (omega arith)
found-events number (header ∷ records) events (suc count) found is le left =
    let all = first-events records events count found is.1 (omega (arith, le)) left.1 in
    (omega (arith, all.0, all.2), all.1 ∙ ap (λ n. take n events) (sym all.0), omega (arith, all.0))

pub first-found : (number : ℕ) (requests : List (List (List ℕ))) (events : List Event) (kept : ℕ) (file : List ℕ) (found : List Event) (whole part : ℕ) → AllByRecursion CanBeSpelled requests → IsLog number requests events
    → kept ≤ length requests → CrashLeaves (length (spellings (take kept requests))) (spellings requests) file → HasEvents number (before_zero file) found whole part
    → (length found ≤ length events) × (found ≡ take (length found) events) × (kept ≤ length found + 1)
first-found number requests events kept file found whole part can is le leaves has =
    let written = spellings requests in
    let text = spellings (take kept requests) in
    let rest = before_zero-written written file leaves.others in
    let sure = before_zero-kept (length text) written file (spellings-no-zero requests (log-may number requests events is can)) leaves.within leaves.sure in
    let kept_text : take (length text) written ≡ text = ap (take (length text)) (texts-split requests kept) ∙ take_at text (spellings (drop kept requests)) (length text) refl in
    let first : AreTheFirst requests (before_zero file) has.requests = the-first requests (before_zero file) rest.0 has.requests has.rest can (sym rest.1) has.are.whole has.are.spelled has.are.unfinished in
    let count = length has.requests in
    let all : kept ≤ count = first.all kept le (sure.0, ap (λ t. t ++ sure.0) (sym kept_text) ∙ sym sure.1) in
    let events_are = found-events number requests events count found is first.within (subst (λ rs. IsLog number rs found) first.first has.is_log) in
    (events_are.0, events_are.1, omega (arith, all, events_are.2))
