use Rattle.xs_tape.proofs.Zeros.{record-logged}
use Rattle.xs_tape.proofs.laws.records_can_be_logged.Goals as goal

pub returns : goal.returns
returns c = record-logged
