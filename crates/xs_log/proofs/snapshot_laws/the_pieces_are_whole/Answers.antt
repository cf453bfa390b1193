use Rattle.xs_log.proofs.SnapshotLaws.{pieces_whole}
use Rattle.xs_log.proofs.snapshot_laws.the_pieces_are_whole.Goals as goal

pub returns : goal.returns
returns c = pieces_whole
