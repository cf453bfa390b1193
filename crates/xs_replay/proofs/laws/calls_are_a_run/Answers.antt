use Rattle.xs_replay.proofs.Served.{calls-run}
use Rattle.xs_replay.proofs.laws.calls_are_a_run.Goals as goal

pub returns : goal.returns
returns c = calls-run
