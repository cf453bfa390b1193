use Rattle.xs_work.specs.Ahead.{IsAheadAfter}
use Rattle.xs_work.proofs.ahead.receive_briefly.Goals as goal

pub returns-then-is_empty-clause-after : goal.returns-then-is_empty-clause-after
returns-then-is_empty-clause-after g c = λ first manner read asked put sent a.
    record { got = a.got; after = c.gather_answers.ensures.after manner read asked a.got sent a.after; calls = a.calls }

pub returns-then-take_answer-clause-after : goal.returns-then-take_answer-clause-after
returns-then-take_answer-clause-after g c = λ first manner read asked put sent a.
    let b : IsAheadAfter first c.args.client.now manner read asked put sent c.gather_answers.new.session = record { got = a.got; after = c.gather_answers.ensures.after manner read asked a.got sent a.after; calls = a.calls } in
    c.take_answer.ensures.after first manner read asked put sent (c.loop.invariant.after first manner read asked put sent b)

pub returns-then-gone-clause-after : goal.returns-then-gone-clause-after
returns-then-gone-clause-after g c = λ first manner read asked put sent a.
    let b : IsAheadAfter first c.args.client.now manner read asked put sent c.gather_answers.new.session = record { got = a.got; after = c.gather_answers.ensures.after manner read asked a.got sent a.after; calls = a.calls } in
    c.take_answer.ensures.after first manner read asked put sent (c.loop.invariant.after first manner read asked put sent b)

pub returns-then-pause_briefly-clause-after : goal.returns-then-pause_briefly-clause-after
returns-then-pause_briefly-clause-after g c = λ first manner read asked put sent a.
    let b : IsAheadAfter first c.args.client.now manner read asked put sent c.gather_answers.new.session = record { got = a.got; after = c.gather_answers.ensures.after manner read asked a.got sent a.after; calls = a.calls } in
    c.take_answer.ensures.after first manner read asked put sent (c.loop.invariant.after first manner read asked put sent b)
