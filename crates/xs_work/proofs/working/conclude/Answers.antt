use Rattle.std.proofs.Common.{map}
use Rattle.xs_work.proofs.WorkerEnds.{closed-desk}
use Rattle.xs_work.proofs.working.conclude.Goals as goal

pub returns-in-Ok-outcome-clause-closed : goal.returns-in-Ok-outcome-clause-closed
returns-in-Ok-outcome-clause-closed g c = λ before count served.
    let done = c.args.done in
    let told = c.in-Ok.ensures in
    closed-desk _ done.keeper done.ended.items before (map g.G.Gate.trace done.gates.items) c.in-Ok.summary c.requires.ends told.lanes told.calls count (rw c.in-Ok-outcome.is at served)

pub returns-in-Err-clause-stopped : goal.returns-in-Err-clause-stopped
returns-in-Err-clause-stopped g c = λ before count served.
    let done = c.args.done in
    let told = c.in-Ok.ensures in
    closed-desk _ done.keeper done.ended.items before (map g.G.Gate.trace done.gates.items) c.in-Ok.summary c.requires.ends told.lanes told.calls count (rw c.in-Err.is at served)
