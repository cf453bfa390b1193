use Rattle.std.proofs.Common.{[]}
use Rattle.xs_io.proofs.Passing.{Appends-nil}
use Rattle.xs_work.specs.Ahead.{IsAheadAfter}
use Rattle.xs_work.proofs.AheadSteps.{sent-none}
use Rattle.xs_work.proofs.ahead.make_room.Goals as goal

pub returns-then-gather_answers-clause-after : goal.returns-then-gather_answers-clause-after
returns-then-gather_answers-clause-after g c = λ first manner read asked put sent a.
    let b : IsAheadAfter first c.args.client.now manner read asked put sent c.gather_answers.new.session = record { got = a.got; after = c.gather_answers.ensures.after manner read asked a.got sent a.after; calls = a.calls } in
    ([], Appends-nil _, sent-none first c.args.client.now manner read sent asked put c.gather_answers.new.session b)

pub returns-in-Ok-clause-after : goal.returns-in-Ok-clause-after
returns-in-Ok-clause-after g c = λ first manner read asked put sent a.
    c.in-Ok.ensures.after first manner read asked put sent (record { got = a.got; after = c.gather_answers.ensures.after manner read asked a.got sent a.after; calls = a.calls })

pub returns-in-Err-clause-after : goal.returns-in-Err-clause-after
returns-in-Err-clause-after g c = λ first manner read asked put sent a.
    c.in-Err.ensures.after first manner read asked put sent (record { got = a.got; after = c.gather_answers.ensures.after manner read asked a.got sent a.after; calls = a.calls })
