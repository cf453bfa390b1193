use Rattle.xs_session.proofs.SessionSteps.{session-goes}
use Rattle.xs_session.proofs.session.Session.advance.Goals as goal

pub returns-in-Some-next-clause-after : goal.returns-in-Some-next-clause-after
returns-in-Some-next-clause-after g c = λ read asked got sent s.
    let free = c.waits_alone.ensures.goes c.if-waits_alone.false in
    c.run_next.ensures.after c.args.manner.now read asked got sent (session-goes c.args.manner.now read asked got sent c.args.self.now c.waits_alone.new.self s free (c.waits_alone.ensures.settled c.if-waits_alone.false))

pub returns-in-None-next-clause-after : goal.returns-in-None-next-clause-after
returns-in-None-next-clause-after g c = λ read asked got sent s.
    let free = c.waits_alone.ensures.goes c.if-waits_alone.false in
    c.take_next.ensures.after read asked got sent (session-goes c.args.manner.now read asked got sent c.args.self.now c.waits_alone.new.self s free (c.waits_alone.ensures.settled c.if-waits_alone.false))
