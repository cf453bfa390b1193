use Rattle.xs_replay.proofs.InRange.{pieces-fit, moment-fits}
use Rattle.xs_replay.proofs.laws.what_events_leave_can_be_written.Goals as goal

pub returns-clause-pieces : goal.returns-clause-pieces
returns-clause-pieces c = pieces-fit

pub returns-clause-moment : goal.returns-clause-moment
returns-clause-moment c = moment-fits
