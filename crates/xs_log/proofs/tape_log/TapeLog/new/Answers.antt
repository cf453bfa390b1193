use Rattle.std.proofs.Common.{arith, ap, ◌∙◌}
use Rattle.xs_tape.specs.Writing.{Writing}
use Rattle.xs_log.proofs.TapeLogs.{logs_go_on, awaits_header}
use Rattle.xs_log.proofs.tape_log.TapeLog.new.Goals as goal

pub returns-then-size-gt0-clause-has : goal.returns-then-size-gt0-clause-has
returns-then-size-gt0-clause-has g c = λ events logs.
    let writer = c.in-Ok.writer in
    let is = c.in-Ok.ensures in
    logs_go_on c.args.number c.size.result writer (g.T.Tape.holds c.args.tape) events (ap (λ (w : Writing). w.broken) is ∙ c.requires) (ap (λ (w : Writing). w.holds) is) (ap (λ (w : Writing). w.pending) is) c.size.ensures
    (λ e. absurd (omega (arith, e, c.if-size-gt0.true))) logs

pub returns-clause-has : goal.returns-clause-has
returns-clause-has g c = λ events logs.
    let writer = c.in-Ok.writer in
    let is = c.in-Ok.ensures in
    c.put_header.ensures.has events (awaits_header c.args.number c.size.result writer (g.T.Tape.holds c.args.tape) events (ap (λ (w : Writing). w.holds) is) (ap (λ (w : Writing). w.pending) is) c.size.ensures
    (omega (arith, c.if-size-gt0.false)) logs)
