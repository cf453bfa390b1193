use Rattle.std.proofs.Common.{subst}
use Rattle.xs_replay.specs.Log.{HasEvents}
use Rattle.xs_log.proofs.Crashed.{read-whole}
use Rattle.xs_log.proofs.ClosedLogs.{closed, closed-part, closed-whole}
use Rattle.xs_log.proofs.closed.read_closed_log.Goals as goal

pub returns-in-Err-clause-err : goal.returns-in-Err-clause-err
returns-in-Err-clause-err g c = λ bytes events known is. c.in-Err.ensures.err bytes known (closed-part c.args.number bytes events is)

pub returns-then-not-is_closed-clause-err : goal.returns-then-not-is_closed-clause-err
returns-then-not-is_closed-clause-err g c = λ bytes events known is.
    let all = c.in-Ok.ensures.ok in
    let rest = g.R.Source.rest in
    let same = read-whole (rest c.args.log.now) bytes (rest c.read_log.new.log) all.0 known all.2 all.3 in
    let has = subst (λ b. HasEvents c.args.number b all.1 c.in-Ok.extent.whole c.in-Ok.extent.part) same all.4 in
    c.is_closed.ensures.no c.if-not-is_closed.true (closed-whole c.args.number bytes events all.1 c.in-Ok.extent.whole c.in-Ok.extent.part is has)

pub returns-clause-ok : goal.returns-clause-ok
returns-clause-ok g c =
    let all = c.in-Ok.ensures.ok in
    let yes = c.is_closed.ensures.yes c.if-not-is_closed.false in
    (all.0, all.1, all.2, all.3, closed c.args.number all.0 all.1 c.in-Ok.extent.whole c.in-Ok.extent.part all.4 yes.0 yes.1, all.5, all.6)
