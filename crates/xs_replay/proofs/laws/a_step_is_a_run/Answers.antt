use Rattle.xs_replay.proofs.Served.{step-runs}
use Rattle.xs_replay.proofs.laws.a_step_is_a_run.Goals as goal

pub returns : goal.returns
returns c = λ old new now command answer formed step. step-runs old new (now, command) answer formed step
