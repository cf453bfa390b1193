use Rattle.xs_log.proofs.SnapshotLaws.{file_has, file_is}
use Rattle.xs_log.proofs.snapshot_laws.a_snapshot_has_its_pieces.Goals as goal

pub returns-clause-has : goal.returns-clause-has
returns-clause-has c = file_has

pub returns-clause-is : goal.returns-clause-is
returns-clause-is c = file_is
