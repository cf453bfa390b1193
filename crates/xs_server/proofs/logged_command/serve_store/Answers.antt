use denote.RattleType.{RattleType}
use denote.Param.{copied}
use denote.Param.Send.{IsSend, sendable}
use Rattle.std.proofs.Crossing.{crosses}
use Rattle.std.specs.declared.sync.Wait.{Ghosts}
use Rattle.std.specs.declared.time.Clock as clock
use Rattle.xs_trace.proofs.trace.Trace.TheLaws.TheKnot.{crosses as traces}
use Rattle.xs_tcp.specs.contracts.run_gate.RunGate
use Rattle.xs_server.proofs.logged_command.serve_store.Goals as goal

gate-send : (S : RattleType) (clocks : clock.Ghosts S.Denot) (waits : Ghosts S.Denot) → IsSend S → IsSend (RunGate.the_row S clocks waits)
gate-send S clocks waits system = search (sendable, crosses, traces) depth 60

pub work_over-requires-send-G : goal.work_over-requires-send-G
work_over-requires-send-G g c κs within =
    let gate : IsSend (RunGate.the_row (copied 0 g.row.R) g.R.Clock g.R.Wait) = gate-send (copied 0 g.row.R) g.R.Clock g.R.Wait c.type_bounds.send-R in
    search sendable depth 10

pub work_over-requires-send-G-Reader : goal.work_over-requires-send-G-Reader
work_over-requires-send-G-Reader g c κs within =
    let system = c.type_bounds.send-R in
    search (sendable, crosses, traces) depth 60

pub work_over-requires-send-G-Writer : goal.work_over-requires-send-G-Writer
work_over-requires-send-G-Writer g c κs within =
    let system = c.type_bounds.send-R in
    search (sendable, crosses, traces) depth 60
