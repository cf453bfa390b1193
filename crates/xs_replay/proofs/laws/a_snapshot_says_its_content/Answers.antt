use Rattle.xs_replay.proofs.PiecesRead.{content-read}
use Rattle.xs_replay.proofs.laws.a_snapshot_says_its_content.Goals as goal

pub returns : goal.returns
returns c = content-read
