-- What a crash leaves of the logs on a tape, and what is read of it.
use Rattle.std.proofs.Common.{◌≡◌, inl, inr, ℕ, suc, ◌+◌, ◌≤◌, true, false, List, [], ◌∷◌, ◌++◌, length, take, map, Option, Some, None, refl, sym, ap, ◌∙◌, subst, arith, length-append}
use Rattle.std.specs.Prelude.{Bool}
use Rattle.std.specs.List.{AllByRecursion}
use Rattle.std.proofs.lemmas.Bool.{cases_eq}
use Rattle.std.proofs.Math.Seq.{take-append-add}
use Rattle.std.proofs.lemmas.List.{take_at, take-append-le, length-map}
use Rattle.xs_bytes.specs.SortedMap.{empty}
use Rattle.xs_keys.specs.Event.{Event}
use Rattle.xs_keys.specs.Content.{Content}
use Rattle.xs_tape.specs.Crash.{before_zero, CrashLeaves}
use Rattle.xs_tape.specs.Records.{CanBeSpelled, spellings}
use Rattle.xs_tape.specs.Tape.{TapeBytes}
use Rattle.xs_tape.specs.Writing.{IsTextOf}
use Rattle.xs_tape.proofs.Crashes.{leaves-more, before_zero-zero, before_zero-more}
use Rattle.xs_tape.proofs.Firsts.{same-front}
use Rattle.xs_replay.specs.After.{contents_after, moment_after}
use Rattle.xs_replay.specs.Log.{AreRecordsOf, IsLog, HasEvents}
use Rattle.xs_replay.proofs.Logs.{one-event}
use Rattle.xs_log.specs.Reading.{IsClosedLog}
use Rattle.xs_log.specs.Logs.{CrashLeavesLog, GiveClosedLogs, MayGiveClosedLogs}
use Rattle.xs_log.specs.TapeLog.{AreClosedLogs, IsLogOnTape, AreLogs}
use Rattle.xs_log.specs.Restart.{Restarts}

-- ---- what a crash leaves of the last log

text-more : (broken : Bool) (written pending text : List ℕ) → IsTextOf broken written pending text → (more : List ℕ) × (written ++ more ≡ text)
text-more false written pending text is = (pending, is)
text-more true written pending text is = (is.0, is.1)

pub crash_of : (broken : Bool) (number : ℕ) (pending : List ℕ) (tape : TapeBytes) (events : List Event) (kept : ℕ) (file : List ℕ) (log : IsLogOnTape broken number pending tape events kept) → CrashLeaves tape.kept tape.written file
    → CrashLeavesLog (suc (length log.closed)) log.last log.sure file
crash_of broken number pending tape events kept file log leaves =
    let all = text-more broken tape.written pending (spellings log.requests) log.on_tape.text_is in
    let sure = length (spellings (take log.sure log.requests)) in
    record {
      requests = log.requests;
      spelled = log.spelled;
      is_log = log.is_log;
      within = log.within;
      leaves = subst (λ text. CrashLeaves sure text file) all.1 (leaves-more tape.kept tape.written sure all.0 file leaves log.on_tape.kept_is);
    }

-- ---- one list of events for some closed logs

requests-unique : (xs ys : List (List (List ℕ))) → AllByRecursion CanBeSpelled xs → AllByRecursion CanBeSpelled ys → spellings xs ≡ spellings ys → xs ≡ ys
requests-unique [] [] can may e = refl
requests-unique [] (y ∷ ys) can may e = absurd (cc (e))
requests-unique (x ∷ xs) [] can may e = absurd (cc (e))
requests-unique (x ∷ xs) (y ∷ ys) can may e =
    let first = same-front x y (spellings xs) (spellings ys) can.0 may.0 e in
    ap (λ w. w ∷ xs) first.0 ∙ ap (λ ws. y ∷ ws) (requests-unique xs ys can.1 may.1 first.1)

records-unique : (records : List (List (List ℕ))) (events others : List Event) → AreRecordsOf records events → AreRecordsOf records others → events ≡ others
records-unique [] [] [] a b = refl
records-unique [] [] (o ∷ others) a b = absurd b
records-unique [] (e ∷ events) others a b = absurd a
records-unique (w ∷ records) [] others a b = absurd a
records-unique (w ∷ records) (e ∷ events) [] a b = absurd b
records-unique (w ∷ records) (e ∷ events) (o ∷ others) a b =
    ap (λ x. x ∷ events) (one-event w e o a.0 b.0) ∙ ap (λ es. o ∷ es) (records-unique records events others a.1 b.1)

log-unique : (number : ℕ) (requests : List (List (List ℕ))) (events others : List Event) → IsLog number requests events → IsLog number requests others → events ≡ others
log-unique number [] events others a b = a ∙ sym b
log-unique number (h ∷ records) events others a b = records-unique records events others a.1 b.1

closed-unique : (number : ℕ) (bytes : List ℕ) (events others : List Event) → IsClosedLog number bytes events → IsClosedLog number bytes others → events ≡ others
closed-unique number bytes events others a b =
    let same = requests-unique (a.header ∷ a.records) (b.header ∷ b.records) a.spelled b.spelled (sym a.bytes_are ∙ b.bytes_are) in
    log-unique number (b.header ∷ b.records) events others (subst (λ rs. IsLog number rs events) same a.is_log) b.is_log

pub given : {R : Type 0} (rest : R → Option (List ℕ)) (number : ℕ) (readers : List R) (closed : List (List ℕ)) (events : List Event) → map rest readers ≡ map (λ bytes. Some bytes) closed → AreClosedLogs number closed events
    → GiveClosedLogs rest number readers events
given rest number [] [] events e are = are
given rest number [] (bytes ∷ closed) events e are = absurd (cc (e))
given rest number (reader ∷ readers) [] events e are = absurd (cc (e))
given rest number (reader ∷ readers) (bytes ∷ closed) events e (first, more, is, joined, are) =
    let here : rest reader ≡ Some bytes = cc (e) in
    let others : map rest readers ≡ map (λ bytes. Some bytes) closed = cc (e) in
    (bytes, first, more, here, is, joined, given rest (suc number) readers closed more others are)

pub given-unique : {R : Type 0} (rest : R → Option (List ℕ)) (number : ℕ) (readers : List R) (closed : List (List ℕ)) (events others : List Event) → map rest readers ≡ map (λ bytes. Some bytes) closed
    → AreClosedLogs number closed events → MayGiveClosedLogs rest number readers others → others ≡ events
given-unique rest number [] [] events others e are may = may ∙ sym are
given-unique rest number [] (bytes ∷ closed) events others e are may = absurd (cc (e))
given-unique rest number (reader ∷ readers) [] events others e are may = absurd (cc (e))
given-unique rest number (reader ∷ readers) (bytes ∷ closed) events others e (first, more, is, joined, are) (one, two, told, split, may) =
    let here : rest reader ≡ Some bytes = cc (e) in
    let behind : map rest readers ≡ map (λ bytes. Some bytes) closed = cc (e) in
    let same : one ≡ first = closed-unique number bytes one first (told bytes here) is in
    let tail : two ≡ more = given-unique rest (suc number) readers closed more two behind are may in
    split ∙ ap (λ es. es ++ two) same ∙ ap (λ es. first ++ es) tail ∙ sym joined

-- ---- a beginning of the events

-- the bytes before the first zero are the front of a file
front-of : (file : List ℕ) (n : ℕ) → n ≤ length (before_zero file) → take n file ≡ take n (before_zero file)
front-of file n le =
    let split = before-front file in
    ap (take n) (sym split.1) ∙ take-append-le n (before_zero file) split.0 le
  where
    before-front : (file : List ℕ) → (rest : List ℕ) × (before_zero file ++ rest ≡ file)
    before-front [] = ([], refl)
    before-front (byte ∷ file) = elim (cases_eq byte 0) [
      | inl none ↦ (byte ∷ file, ap (λ f. f ++ (byte ∷ file)) (before_zero-zero byte file none))
      | inr some ↦
          let more = before-front file in
          (more.0, ap (λ f. f ++ more.0) (before_zero-more byte file some) ∙ ap (λ f. byte ∷ f) more.1)
    ]

pub front-of-events : (events before last : List Event) (count : ℕ) → events ≡ before ++ last → take (length before + count) events ≡ before ++ take count last
front-of-events events before last count e = ap (take (length before + count)) e ∙ take-append-add before last count

-- the file, cut after its complete records
cut-logs : (tape : TapeBytes) (before last : List Event) (file : List ℕ) (whole part : ℕ) → AreClosedLogs 1 tape.closed before → HasEvents (suc (length tape.closed)) (before_zero file) last whole part
    → AreLogs (suc (length tape.closed)) (record { closed = tape.closed; written = take whole file; kept = whole }) (before ++ last)
cut-logs tape before last file whole part are has =
    let text = spellings has.requests in
    let size : length (before_zero file) ≡ length text + length has.rest = ap length has.are.whole ∙ length-append text has.rest in
    let front = front-of file whole (omega (arith, size, has.whole_is)) in
    let written : take whole file ≡ text = front ∙ ap (take whole) has.are.whole ∙ take_at text has.rest whole (sym has.whole_is) in
    record {
      before = before;
      last = last;
      requests = has.requests;
      events_are = refl;
      closed_are = are;
      number_is = refl;
      spelled = has.are.spelled;
      is_log = has.is_log;
      written_is = written;
      kept_is = has.whole_is ∙ sym (ap length written);
    }

pub restarts_so : (broken : Bool) (number : ℕ) (pending : List ℕ) (tape : TapeBytes) (events : List Event) (kept : ℕ) (file : List ℕ) (log : IsLogOnTape broken number pending tape events kept) (count : ℕ) (content : Content) (moment : Option ℕ)
    (whole part : ℕ) → count ≤ length log.last → log.sure ≤ count + 1 → HasEvents (suc (length log.closed)) (before_zero file) (take count log.last) whole part → content ≡ contents_after empty (log.before ++ take count log.last)
    → moment ≡ moment_after None (log.before ++ take count log.last) → Restarts tape events kept file content moment whole
restarts_so broken number pending tape events kept file log count content moment whole part le sure has content_is moment_is =
    let front = front-of-events events log.before log.last count log.events_are in
    let closed = sym log.on_tape.closed_is in
    let here = subst (λ cs. HasEvents (suc (length cs)) (before_zero file) (take count log.last) whole part) closed has in
    let are = subst (λ cs. AreClosedLogs 1 cs log.before) closed log.closed_are in
    record {
      count = length log.before + count;
      within = omega (arith, le, ap length log.events_are, length-append log.before log.last);
      kept_are = omega (arith, log.kept_are, sure);
      content_is = content_is ∙ ap (contents_after empty) (sym front);
      moment_is = moment_is ∙ ap (moment_after None) (sym front);
      goes_on = subst (λ es. AreLogs (suc (length tape.closed)) (record { closed = tape.closed; written = take whole file; kept = whole }) es) (sym front) (cut-logs tape log.before (take count log.last) file whole part are here);
    }

-- the number of the last log
pub number_of : {R : Type 0} (rest : R → Option (List ℕ)) (readers : List R) (closed : List (List ℕ)) → map rest readers ≡ map (λ bytes. Some bytes) closed → 1 + length readers ≡ suc (length closed)
number_of rest readers closed e = omega (arith, sym (length-map readers rest), ap length e, length-map closed (λ bytes. Some bytes))
