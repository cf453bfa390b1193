use Rattle.std.proofs.Common.{refl, sym, subst}
use Rattle.xs_resp.specs.HeldBytes.{Held}
use Rattle.xs_resp.specs.LeftToWrite.{bytes_left}
use Rattle.xs_session.specs.Session.{IsAfter}
use Rattle.xs_session.proofs.SessionSteps.{ready-same, session-refused, step-much, step-refused, waits-of}
use Rattle.xs_session.proofs.session.Session.take_next.Goals as goal

pub returns-in_default-clause-after : goal.returns-in_default-clause-after
returns-in_default-clause-after g c = λ read asked got sent s.
    let session = c.args.self.now in
    session-refused c.args.manner.now read asked got sent session c.refuse.new.self c.has_next.new.self c.refuse.result c.refuse.ensures.after c.refuse.ensures.ends s.1
    (step-refused c.args.manner.now session.standing read asked got sent session.ended session.requests c.has_next.new.self session.places _ (bytes_left session.owed) c.in_default.field-0 c.requires.going s.0 c.in_default.ensures refl)

pub returns-then-is_too_much-clause-after : goal.returns-then-is_too_much-clause-after
returns-then-is_too_much-clause-after g c = λ read asked got sent s.
    let session = c.args.self.now in
    session-refused c.args.manner.now read asked got sent session c.refuse-then-is_too_much.new.self c.has_next.new.self c.refuse-then-is_too_much.result c.refuse-then-is_too_much.ensures.after c.refuse-then-is_too_much.ensures.ends s.1
    (step-much c.args.manner.now session.standing read asked got sent session.ended session.requests c.has_next.new.self session.places _ (bytes_left session.owed) c.requires.going s.0
    (ready-same session.requests c.has_next.new.self c.in-Ok.is_whole c.in-Ok.ensures) (sym c.if-is_stranger.ensures) (sym c.if-is_too_much.ensures) refl)

pub returns-then-not-is_whole-clause-waits : goal.returns-then-not-is_whole-clause-waits
returns-then-not-is_whole-clause-waits g c = λ waiting.
    (c.requires.going, waits-of c.args.self.now.requests c.has_next.new.self (rw c.if-not-is_whole.true at c.in-Ok.ensures))

pub returns-clause-after : goal.returns-clause-after
returns-clause-after g c = λ read asked got sent s.
    let session = c.args.self.now in
    let same = ready-same session.requests c.has_next.new.self c.in-Ok.is_whole c.in-Ok.ensures in
    c.take_front.ensures.after read asked got sent (subst (λ (h : Held). IsAfter c.args.manner.now session.standing read asked got sent session.ended h session.places (bytes_left session.owed)) (sym same) s.0, s.1)
