use Rattle.std.proofs.Common.{[], ◌++◌}
use Rattle.xs_io.proofs.Passing.{Appends-nil}
use Rattle.xs_work.proofs.AheadSteps.{sent-none, fails-gone}
use Rattle.xs_work.proofs.ahead.settle.Goals as goal

pub returns-then-take_answer-clause-after : goal.returns-then-take_answer-clause-after
returns-then-take_answer-clause-after g c = λ first manner read asked put sent a.
    let b = c.take_answer.ensures.after first manner read asked put sent a in
    ([], Appends-nil _, sent-none first c.take_answer.new.client manner read sent asked put c.take_answer.new.session b)

pub returns-in-Ok-clause-after : goal.returns-in-Ok-clause-after
returns-in-Ok-clause-after g c = λ first manner read asked put sent a. c.in-Ok.ensures.after first manner read asked put sent (c.take_answer.ensures.after first manner read asked put sent a)

pub returns-in-Err-clause-after : goal.returns-in-Err-clause-after
returns-in-Err-clause-after g c = λ first manner read asked put sent a. c.in-Err.ensures.after first manner read asked put sent (c.take_answer.ensures.after first manner read asked put sent a)

pub returns-in-Ok-true-clause-after : goal.returns-in-Ok-true-clause-after
returns-in-Ok-true-clause-after g c = λ first manner read asked put sent a.
    let b = c.receive_briefly.ensures.after first manner read asked put sent (c.take_answer.ensures.after first manner read asked put sent a) in
    ([], Appends-nil _, sent-none first c.receive_briefly.new.client manner read sent asked put c.receive_briefly.new.session b)

pub returns-in-Err-receive_briefly-clause-after : goal.returns-in-Err-receive_briefly-clause-after
returns-in-Err-receive_briefly-clause-after g c = λ first manner read asked put sent a.
    let b = c.receive_briefly.ensures.after first manner read asked put sent (c.take_answer.ensures.after first manner read asked put sent a) in
    let now = c.receive_briefly.new.client in
    let session = c.receive_briefly.new.session in
    ([], Appends-nil _, fails-gone first now manner read (sent ++ []) asked put session (sent-none first now manner read sent asked put session b))

pub returns-in-Err-send_before-clause-after : goal.returns-in-Err-send_before-clause-after
returns-in-Err-send_before-clause-after g c = λ first manner read asked put sent a.
    c.in-Err-send_before.ensures.after first manner read asked put sent (c.receive_briefly.ensures.after first manner read asked put sent (c.take_answer.ensures.after first manner read asked put sent a))

pub returns-in-Ok-receive-clause-after : goal.returns-in-Ok-receive-clause-after
returns-in-Ok-receive-clause-after g c = λ first manner read asked put sent a.
    let b = c.receive_briefly.ensures.after first manner read asked put sent (c.take_answer.ensures.after first manner read asked put sent a) in
    let (more, went, later) = c.in-Ok-send_before.ensures.after first manner read asked put sent b in
    (more, went, c.in-Ok-receive.ensures.after first manner read asked put (sent ++ more) later)

pub returns-in-Err-receive-clause-after : goal.returns-in-Err-receive-clause-after
returns-in-Err-receive-clause-after g c = λ first manner read asked put sent a.
    let b = c.receive_briefly.ensures.after first manner read asked put sent (c.take_answer.ensures.after first manner read asked put sent a) in
    let (more, went, later) = c.in-Ok-send_before.ensures.after first manner read asked put sent b in
    let last = c.receive.ensures.after first manner read asked put (sent ++ more) later in
    (more, went, fails-gone first c.receive.new.client manner read (sent ++ more) asked put c.receive.new.session last)
