use Rattle.std.proofs.Common.{◌++◌, ap, sym, ◌∙◌, subst, append_assoc}
use Rattle.xs_io.proofs.Passing.{Appends-trans}
use Rattle.xs_resp.specs.LeftToWrite.{bytes_left}
use Rattle.xs_session.specs.declared.session.Session.{Session}
use Rattle.xs_session.specs.Places.{has_open, NoneReady}
use Rattle.xs_session.proofs.Tests.{none-behind}
use Rattle.xs_work.proofs.AheadSteps.{breaks-later}
use Rattle.xs_work.proofs.ahead.send_ready.Goals as goal

pub answers-init : goal.answers-init
answers-init g c =
    let begun = c.gather_answers.ensures in
    let once = c.in-Ok.ensures in
    record {
      sends = λ manner read asked got sent s. once.sends manner read asked got sent (begun.after manner read asked got sent s);
      owed = once.none;
      waits = ap has_open once.places ∙ begun.open;
      ended = once.ended ∙ begun.ended;
      held = once.held ∙ begun.held;
    }

pub answers-preserved : goal.answers-preserved
answers-preserved g c =
    let inv = c.answers.invariant in
    let begun = c.gather_answers-in-answers.ensures in
    let again = c.in-Ok-send_unsent.ensures in
    record {
      sends = λ manner read asked got sent s.
          let (went, appends, after) = inv.sends manner read asked got sent s in
          let (more, also, later) = again.sends manner read asked got (sent ++ went) (begun.after manner read asked got (sent ++ went) after) in
          (went ++ more, Appends-trans _ _ _ went more appends also, rw (← append_assoc) later);
      owed = again.none;
      waits = ap has_open again.places ∙ begun.open ∙ inv.waits;
      ended = again.ended ∙ begun.ended ∙ inv.ended;
      held = again.held ∙ begun.held ∙ inv.held;
    }

pub returns-clause-sends : goal.returns-clause-sends
returns-clause-sends g c = λ manner read asked got sent s.
    let (went, appends, after) = c.answers.invariant.sends manner read asked got sent s in
    (went, appends, c.gather_answers-in-answers.ensures.after manner read asked got (sent ++ went) after)

pub returns-in-Err-clause-sends : goal.returns-in-Err-clause-sends
returns-in-Err-clause-sends g c = λ manner read asked got sent s.
    c.in-Err.ensures.sends manner read asked got sent (c.gather_answers.ensures.after manner read asked got sent s)

pub returns-in-Err-send_unsent-clause-sends : goal.returns-in-Err-send_unsent-clause-sends
returns-in-Err-send_unsent-clause-sends g c = λ manner read asked got sent s.
    let (went, appends, after) = c.answers.invariant.sends manner read asked got sent s in
    let (more, also, breaks) = c.in-Err-send_unsent.ensures.sends manner read asked got (sent ++ went) (c.gather_answers-in-answers.ensures.after manner read asked got (sent ++ went) after) in
    (went ++ more, Appends-trans _ _ _ went more appends also, breaks-later manner read asked got sent went more c.send_unsent-in-answers.new.session breaks)

pub returns-clause-none : goal.returns-clause-none
returns-clause-none g c =
    let begun = c.gather_answers-in-answers.ensures in
    let owed = c.answers.session.owed in
    let same = begun.none c.answers-test.false in
    let ready = begun.last c.answers-test.false (none-behind owed.piece owed.behind c.answers.invariant.owed) in
    (ap (λ (s : Session). bytes_left s.owed) same ∙ c.answers.invariant.owed, subst (λ (s : Session). NoneReady s.places) (sym same) ready)
