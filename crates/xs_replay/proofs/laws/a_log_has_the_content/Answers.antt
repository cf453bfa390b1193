use Rattle.xs_replay.proofs.Served.{log-content}
use Rattle.xs_replay.proofs.laws.a_log_has_the_content.Goals as goal

pub returns : goal.returns
returns c = log-content
