use Rattle.xs_log.proofs.SnapshotInput.{no_fault_taken}
use Rattle.xs_log.proofs.snapshot_input.await_request.Goals as goal

pub returns-in-Err-clause-err : goal.returns-in-Err-clause-err
returns-in-Err-clause-err g c = λ first done written taken gives.
    no_fault_taken first (g.R.Source.rest c.loop.source) c.loop.requests c.has_next.new.self done written c.has_next.result c.in-Err.field-0 (c.loop.invariant first done taken) gives c.has_next.ensures c.in-Err.is
