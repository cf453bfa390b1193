use Rattle.xs_work.proofs.AheadSteps.{gives-up, lost-is}
use Rattle.xs_work.proofs.ahead.send_before.Goals as goal

pub returns-in-Ok-clause-after : goal.returns-in-Ok-clause-after
returns-in-Ok-clause-after g c = λ first manner read asked put sent a.
    let (more, went, after) = c.in-Ok.ensures.sends manner read asked a.got sent a.after in
    (more, went, record { got = a.got; after = after; calls = a.calls })

pub returns-in-Err-clause-after : goal.returns-in-Err-clause-after
returns-in-Err-clause-after g c = λ first manner read asked put sent a.
    let (more, went, breaks) = c.in-Err.ensures.sends manner read asked a.got sent a.after in (
      more,
      went,
      gives-up first c.args.client.now c.give_up.new.client manner read asked put sent more c.send_ready.new.session c.give_up.new.session a.got c.give_up.result breaks a.calls
          (λ s. c.give_up.ensures.after first manner read asked put s) c.give_up.ensures.fault c.give_up.ensures.owed,
    )

pub returns-in-Err-clause-cause : goal.returns-in-Err-clause-cause
returns-in-Err-clause-cause g c = lost-is c.give_up.result _ c.give_up.ensures.fault c.in-Err.ensures.broken
