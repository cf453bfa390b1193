use Rattle.xs_replay.proofs.Logs.{first-found}
use Rattle.xs_replay.proofs.laws.a_crash_leaves_the_first_events.Goals as goal

pub returns : goal.returns
returns c = first-found
