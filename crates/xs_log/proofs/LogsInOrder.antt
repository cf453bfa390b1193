-- Logs that are read one after the other.
use Rattle.std.proofs.Common.{◌≡◌, refl, ℕ, suc, ◌+◌, List, [], ◌∷◌, ◌++◌, length, Option, Some, sym, ap, ◌∙◌, subst, arith}
use Rattle.std.proofs.lemmas.List.{append-nil, append_assoc}
use Rattle.xs_keys.specs.Event.{Event}
use Rattle.xs_keys.specs.Content.{Content}
use Rattle.xs_replay.specs.After.{after, contents_after, moment_after}
use Rattle.xs_keys.specs.Event.{event_moment}
use Rattle.xs_log.specs.Reading.{IsClosedLog}
use Rattle.xs_log.specs.Logs.{GiveClosedLogs, MayGiveClosedLogs}

pub contents-joined : (old : Content) (events more : List Event) → contents_after old (events ++ more) ≡ contents_after (contents_after old events) more
contents-joined old [] more = refl
contents-joined old (event ∷ events) more = contents-joined (after old event) events more

pub moments-joined : (before : Option ℕ) (events more : List Event) → moment_after before (events ++ more) ≡ moment_after (moment_after before events) more
moments-joined before [] more = refl
moments-joined before (event ∷ events) more = moments-joined (Some (event_moment event)) events more

-- one log more
pub may-more : {R : Type 0} (rest : R → Option (List ℕ)) (number : ℕ) (readers : List R) (reader : R) (events more : List Event) → MayGiveClosedLogs rest number readers events
    → ((bytes : List ℕ) → rest reader ≡ Some bytes → IsClosedLog (number + length readers) bytes more)
    → MayGiveClosedLogs rest number (readers ++ reader ∷ []) (events ++ more)
may-more rest number [] reader events more may is =
    let here : number + 0 ≡ number = omega arith in
    (more, [], (λ bytes known. subst (λ n. IsClosedLog n bytes more) here (is bytes known)), ap (λ es. es ++ more) may ∙ sym (append-nil more), refl)
may-more rest number (one ∷ readers) reader events more (first, others, closed, joined, may) is =
    let here : number + suc (length readers) ≡ suc number + length readers = omega arith in (
      first,
      others ++ more,
      closed,
      ap (λ es. es ++ more) joined ∙ append_assoc first others more,
      may-more rest (suc number) readers reader others more may (λ bytes known. subst (λ n. IsClosedLog n bytes more) here (is bytes known)),
    )

-- the log after this many
pub give-at : {R : Type 0} (rest : R → Option (List ℕ)) (number : ℕ) (readers : List R) (reader : R) (behind : List R) (events : List Event) → GiveClosedLogs rest number (readers ++ reader ∷ behind) events
    → (bytes : List ℕ) × (found : List Event) × (rest reader ≡ Some bytes) × IsClosedLog (number + length readers) bytes found
give-at rest number [] reader behind events (bytes, first, others, known, closed, joined, more) =
    let here : number ≡ number + 0 = omega arith in
    (bytes, first, known, subst (λ n. IsClosedLog n bytes first) here closed)
give-at rest number (one ∷ readers) reader behind events (bytes, first, others, known, closed, joined, more) =
    let here : suc number + length readers ≡ number + suc (length readers) = omega arith in
    let at = give-at rest (suc number) readers reader behind others more in
    (at.0, at.1, at.2, subst (λ n. IsClosedLog n at.0 at.1) here at.3)
