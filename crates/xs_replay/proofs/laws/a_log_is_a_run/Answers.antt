use Rattle.xs_replay.proofs.Served.{log-runs}
use Rattle.xs_replay.proofs.laws.a_log_is_a_run.Goals as goal

pub returns : goal.returns
returns c = log-runs
