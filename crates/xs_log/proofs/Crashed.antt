-- What is read of what a crash left.
use Rattle.std.proofs.Common.{◌≡◌, ℕ, ◌+◌, ◌≤◌, List, ◌++◌, length, take, Some, None, Option, sym, ap, ◌∙◌, subst}
use Rattle.std.specs.Prelude.{Result, Ok, Err, IfOk, OnOk}
use Rattle.std.specs.List.{AllByRecursion}
use Rattle.std.specs.Io.KnownBytes as std
use Rattle.xs_io.specs.Passing.{Passing, Consumes, IsAtEnd}
use Rattle.std.proofs.lemmas.List.{append-nil}
use Rattle.xs_keys.specs.Event.{Event}
use Rattle.xs_keys.specs.Content.{Content}
use Rattle.xs_tape.specs.Crash.{before_zero, CrashLeaves}
use Rattle.xs_tape.specs.Records.{CanBeSpelled, spellings}
use Rattle.xs_tape.proofs.Crashes.{before_zero-written}
use Rattle.xs_replay.specs.After.{contents_after, moment_after}
use Rattle.xs_replay.specs.Log.{IsLog, HasEvents}
use Rattle.xs_replay.proofs.Logs.{first-found}
use Rattle.xs_log.specs.declared.reading.Extent.{Extent}
use Rattle.xs_log.specs.Reading.{IsPartOfLog}

known-whole : (old : Option (List ℕ)) (bytes : List ℕ) (new : Option (List ℕ)) (read : List ℕ) → old ≡ Some bytes → std.Consumes old new read → std.IsAtEnd new → read ≡ bytes
known-whole None bytes new read e consumes end = absurd (cc (e))
known-whole (Some xs) bytes None read e consumes end = absurd consumes
known-whole (Some xs) bytes (Some rest) read e consumes end =
    let same : xs ≡ bytes = cc (e) in
    sym (append-nil read) ∙ sym (ap (λ r. read ++ r) end) ∙ sym consumes ∙ same

-- all of known bytes were read
pub read-whole : (old : Passing) (bytes : List ℕ) (new : Passing) (read : List ℕ) → old.known ≡ Some bytes → Consumes old new read → IsAtEnd new → read ≡ bytes
read-whole old bytes new read e consumes end = known-whole old.known bytes new.known read e consumes.0 end

-- the bytes before the first zero are a beginning of the log
pub part-left : (number : ℕ) (requests : List (List (List ℕ))) (events : List Event) (kept : ℕ) (left : List ℕ) → AllByRecursion CanBeSpelled requests → IsLog number requests events
    → CrashLeaves kept (spellings requests) left → IsPartOfLog number (before_zero left)
part-left number requests events kept left can is leaves =
    let rest = before_zero-written (spellings requests) left leaves.others in
    record { requests = requests; events = events; more = rest.0; spelled = can; is_log = is; written = sym rest.1 }

-- what was recovered
abbrev pub Recovers : ℕ → List ℕ → ℕ → List Event → Content → Option ℕ → Content → Option ℕ → Extent → Type 0
Recovers number left kept events old before new moment extent =
    (count : ℕ) × (count ≤ length events) × (kept ≤ count + 1) × HasEvents number (before_zero left) (take count events) extent.whole extent.part × (new ≡ contents_after old (take count events))
    × (moment ≡ moment_after before (take count events))

pub recovered : {E : Type 0} (result : Result Extent E) (number : ℕ) (first last : Passing) (old new : Content) (before moment : Option ℕ) (requests : List (List (List ℕ))) (events : List Event) (kept : ℕ) (left : List ℕ)
    → AllByRecursion CanBeSpelled requests → IsLog number requests events → kept ≤ length requests → CrashLeaves (length (spellings (take kept requests))) (spellings requests) left → first.known ≡ Some (before_zero left)
    → IfOk result (λ extent. (bytes : List ℕ) × (found : List Event) × Consumes first last bytes × IsAtEnd last × HasEvents number bytes found extent.whole extent.part × (new ≡ contents_after old found) × (moment ≡ moment_after before found))
    → IfOk result (λ extent. Recovers number left kept events old before new moment extent)
recovered (Err e) number first last old new before moment requests events kept left can is le leaves known all = tt
recovered (Ok extent) number first last old new before moment requests events kept left can is le leaves known (bytes, found, consumes, end, has, content, last_is) =
    let same = read-whole first (before_zero left) last bytes known consumes end in
    let here = subst (λ b. HasEvents number b found extent.whole extent.part) same has in
    let events_are = first-found number requests events kept left found extent.whole extent.part can is le leaves here in (
      length found,
      events_are.0,
      events_are.2,
      subst (λ es. HasEvents number (before_zero left) es extent.whole extent.part) events_are.1 here,
      content ∙ ap (contents_after old) events_are.1,
      last_is ∙ ap (moment_after before) events_are.1,
    )

-- whatever was read, the content is that of some events
pub of-events : {E : Type 0} (result : Result Extent E) (number : ℕ) (first last : Passing) (old new : Content) (before moment : Option ℕ)
    → IfOk result (λ extent. (bytes : List ℕ) × (found : List Event) × Consumes first last bytes × IsAtEnd last × HasEvents number bytes found extent.whole extent.part × (new ≡ contents_after old found) × (moment ≡ moment_after before found))
    → OnOk result ((events : List Event) × (new ≡ contents_after old events) × (moment ≡ moment_after before events))
of-events (Err e) number first last old new before moment all = tt
of-events (Ok extent) number first last old new before moment (bytes, found, consumes, end, has, content, last_is) = (found, content, last_is)
