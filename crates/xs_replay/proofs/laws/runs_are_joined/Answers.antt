use Rattle.xs_replay.proofs.Served.{runs-join}
use Rattle.xs_replay.proofs.laws.runs_are_joined.Goals as goal

pub returns : goal.returns
returns c = runs-join
