-- The journal of a desk with a log, event by event.
use Rattle.std.specs.Prelude.{◌≡◌, ℕ, ◌+◌, ◌*◌, ◌≤◌, ◌<◌, ◌^◌, Bool, true, false, not, List, [], ◌∷◌, ◌++◌, length, decimal, Option, Some, None, if◌then◌else◌, refl}
use Rattle.std.proofs.Common.{sym, ◌∙◌, ap, subst, arith, inl, inr, append_assoc}
use Rattle.std.proofs.lemmas.List.{append-nil}
use Rattle.std.proofs.lemmas.Fmt.{length-decimal-le}
use Rattle.xs_resp.specs.declared.header.Part.TheVariants.{Size}
use Rattle.xs_resp.specs.HeaderPart.{limit}
use Rattle.xs_tape.specs.Escape.{escaped}
use Rattle.xs_tape.specs.Records.{CanBeSpelled, record_words}
use Rattle.xs_tape.proofs.Sizes.{escaped-short}
use Rattle.xs_command.specs.declared.command.Command.{Command}
use Rattle.xs_command.specs.WellFormed.{IsWellFormed}
use Rattle.xs_resp.specs.declared.reply.Reply.{Reply}
use Rattle.xs_keys.specs.Event.{Event}
use Rattle.xs_keys.specs.Content.{Content}
use Rattle.xs_keys.specs.Step.{Step}
use Rattle.xs_keys.specs.Waiting.{ChangesNothing}
use Rattle.xs_replay.specs.Calls.{is_left_out}
use Rattle.xs_replay.proofs.Served.{left-out}
use Rattle.xs_desk.specs.Calls.{AreWordsOf, HasWords}
use Rattle.xs_desk.specs.Noting.{event_if, Notes}
use Rattle.xs_desk.specs.LogJournals.{HasEvents}

-- a log can have a record of a moment's event
pub can-be-spelled : (now : ℕ) (words : List (List ℕ)) (command : Command) → now < 2 ^ 63 → AreWordsOf words command → CanBeSpelled (record_words (decimal now) words)
can-be-spelled now words command small are =
    are.short (decimal now) (omega (arith, escaped-short (decimal now), length-decimal-le 20 now (omega arith) (omega (arith, small)) (omega (arith, small))))

pub words-of : (found : Option (List (List ℕ))) (words : List (List ℕ)) (command : Command) → found ≡ Some words → HasWords found command → AreWordsOf words command
words-of found words command is has = subst (λ o. HasWords o command) is has

module _ {L : Type 0} (has : L → List Event → ℕ → Type 0) where
  -- an event was appended to the log, or a part of it if that failed
  pub appended : (log after : L) (failed fails : Bool) (first start : Content) (event : Event) → failed ≡ false → ((events : List Event) (kept : ℕ) → has log events kept → has after (events ++ event ∷ []) kept)
      → (events : List Event) (kept : ℕ) → HasEvents has log failed first start events kept → HasEvents has after fails first start (events ++ event ∷ []) kept
  appended log after failed fails first start event sound grows events kept h =
      let all : events ≡ h.noted = h.events_are ∙ ap (λ es. h.noted ++ es) (h.none_lost sound) ∙ append-nil h.noted in
      record {
        past = h.past;
        start_is = h.start_is;
        noted = h.noted ++ event ∷ [];
        lost = [];
        events_are = ap (λ es. es ++ event ∷ []) all ∙ sym (append-nil (h.noted ++ event ∷ []));
        log_has = subst (λ es. has after es (length h.past + kept)) (append_assoc h.past h.noted (event ∷ [])) (grows (h.past ++ h.noted) (length h.past + kept) h.log_has);
        none_lost = λ _. refl;
      }

-- a call was left out
pub left-out-of : {J : Type 0} (has : J → List Event → ℕ → Type 0) (journal : J) (moment : ℕ) (command : Command) (reply : Reply) → IsWellFormed command → is_left_out command reply ≡ true
    → (old new : Content) → Step old moment command reply new → Notes has journal (moment, command) old new journal
left-out-of has journal moment command reply formed out old new step = record {
  in_log = not (is_left_out command reply);
  rule = left-out old moment command reply new formed step;
  noted = λ events kept h. subst (λ b. has journal (events ++ event_if (not b) (moment, command)) kept) (sym out) (subst (λ es. has journal es kept) (sym (append-nil events)) h);
}

-- a call was noted
pub noted-of : {J : Type 0} (has : J → List Event → ℕ → Type 0) (journal after : J) (moment : ℕ) (command : Command) (reply : Reply) → IsWellFormed command → is_left_out command reply ≡ false
    → ((events : List Event) (kept : ℕ) → has journal events kept → has after (events ++ (moment, command) ∷ []) kept)
    → (old new : Content) → Step old moment command reply new → Notes has journal (moment, command) old new after
noted-of has journal after moment command reply formed in_log grows old new step = record {
  in_log = not (is_left_out command reply);
  rule = left-out old moment command reply new formed step;
  noted = λ events kept h. subst (λ b. has after (events ++ event_if (not b) (moment, command)) kept) (sym in_log) (grows events kept h);
}

-- a call changed nothing
stays : (old new : Content) (moment : ℕ) (command : Command) (reply : Reply) → Step old moment command reply new → ChangesNothing old command → new ≡ old
stays old new moment command reply (inl applied) vain = applied.content_is ∙ vain moment
stays old new moment command reply (inr refused) vain = refused.content_is

pub vain-of : {J : Type 0} (has : J → List Event → ℕ → Type 0) (journal : J) (moment : ℕ) (command : Command) (reply : Reply)
    → (old new : Content) → Step old moment command reply new → ChangesNothing old command → Notes has journal (moment, command) old new journal
vain-of has journal moment command reply old new step vain = record {
  in_log = false;
  rule = stays old new moment command reply step vain;
  noted = λ events kept h. subst (λ es. has journal es kept) (sym (append-nil events)) h;
}
