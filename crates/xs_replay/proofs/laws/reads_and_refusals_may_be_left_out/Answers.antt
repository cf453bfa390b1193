use Rattle.xs_replay.proofs.Served.{left-out}
use Rattle.xs_replay.proofs.laws.reads_and_refusals_may_be_left_out.Goals as goal

pub returns : goal.returns
returns c = left-out
