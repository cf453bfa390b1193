use Rattle.std.proofs.Common.{ℕ, List}
use Rattle.xs_io.specs.Passing.{Passing}
use Rattle.xs_log.specs.SnapshotReading.{HasTaken}
use Rattle.xs_log.proofs.snapshot_input.await_request.Given as goal

abbrev pub invariant-loop : goal.invariant-loop
invariant-loop g l =
    (first : Passing) (done : List (List (List ℕ))) → HasTaken first (g.R.Source.rest l.fn.source) l.fn.requests done
    → HasTaken first (g.R.Source.rest l.source) l.requests done
