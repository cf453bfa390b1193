use Rattle.std.proofs.Common.{◌∙◌, arith}
use Rattle.xs_work.proofs.ahead.gather_answers.Goals as goal

pub answers-init : goal.answers-init
answers-init c =
    let begun = c.begin_answer.ensures in
    record {
      after = begun.after;
      fewer = begun.fewer c.if-not-begin_answer.false;
      waits = begun.open;
      ended = begun.ended;
      held = begun.held;
    }

pub answers-preserved : goal.answers-preserved
answers-preserved c =
    let inv = c.answers.invariant in
    let begun = c.begin_answer-in-answers.ensures in
    record {
      after = λ manner read asked got sent s. begun.after manner read asked got sent (inv.after manner read asked got sent s);
      fewer = omega (arith, begun.fewer c.answers-test.true, inv.fewer);
      waits = begun.open ∙ inv.waits;
      ended = begun.ended ∙ inv.ended;
      held = begun.held ∙ inv.held;
    }

pub returns-clause-after : goal.returns-clause-after
returns-clause-after c = λ manner read asked got sent s. c.begin_answer-in-answers.ensures.after manner read asked got sent (c.answers.invariant.after manner read asked got sent s)
