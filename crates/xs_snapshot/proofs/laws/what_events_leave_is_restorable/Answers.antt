use Rattle.xs_snapshot.proofs.RestorableHistories.{events-restorable}
use Rattle.xs_snapshot.proofs.laws.what_events_leave_is_restorable.Goals as goal

pub returns : goal.returns
returns c = λ events fit. events-restorable events fit
