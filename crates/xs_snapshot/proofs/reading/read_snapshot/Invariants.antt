use Rattle.xs_log.specs.SnapshotReading.{HasRead}
use Rattle.xs_snapshot.specs.Building.{pieces_so_far}
use Rattle.xs_snapshot.specs.NextPiece.{IsInOrder}
use Rattle.xs_snapshot.proofs.reading.read_snapshot.Given as goal

-- the pieces that were read are those that were put
abbrev pub invariant-loop-count : goal.invariant-loop-count
invariant-loop-count g l =
    HasRead l.fn.number (g.R.Source.rest l.fn.source) l.reader l.moment (pieces_so_far l.builder) × IsInOrder l.builder
