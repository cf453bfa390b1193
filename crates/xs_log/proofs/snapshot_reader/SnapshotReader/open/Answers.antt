use Rattle.std.proofs.Common.{refl, arith}
use Rattle.xs_replay.specs.Snapshot.{piece_records}
use Rattle.xs_log.proofs.SnapshotInput.{taken_first}
use Rattle.xs_log.proofs.SnapshotReads.{gives_all}
use Rattle.xs_log.proofs.snapshot_reader.SnapshotReader.open.Goals as goal

pub returns-in-Err-clause-err : goal.returns-in-Err-clause-err
returns-in-Err-clause-err g c = λ bytes moment pieces known is.
    let first = g.R.Source.rest c.args.source in
    c.in-Err.ensures.err first moment (piece_records pieces) (taken_first first c.new-requests.result c.new-requests.ensures) (gives_all first c.args.number bytes moment pieces known is) is.moment_fits

pub returns-clause-ok : goal.returns-clause-ok
returns-clause-ok g c =
    let first = g.R.Source.rest c.args.source in
    let taken = c.in-Ok.ensures.ok first (taken_first first c.new-requests.result c.new-requests.ensures) in
    record { taken = taken.0; count_is = refl; number_small = omega arith; moment_fits = taken.1; fits = tt }
