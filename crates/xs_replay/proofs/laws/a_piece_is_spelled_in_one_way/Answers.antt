use Rattle.xs_replay.proofs.SnapshotsRead.{piece-back}
use Rattle.xs_replay.proofs.PiecesSpelled.{words-said}
use Rattle.xs_replay.proofs.laws.a_piece_is_spelled_in_one_way.Goals as goal

pub returns-clause-said : goal.returns-clause-said
returns-clause-said c = piece-back

pub returns-clause-only : goal.returns-clause-only
returns-clause-only c = words-said
