use Rattle.xs_tape.proofs.Heads.{not_cut}
use Rattle.xs_tape.proofs.laws.whole_records_are_not_cut.Goals as goal

pub returns : goal.returns
returns c = not_cut
