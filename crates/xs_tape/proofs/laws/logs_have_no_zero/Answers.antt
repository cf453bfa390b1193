use Rattle.xs_tape.proofs.Zeros.{spellings-no-zero}
use Rattle.xs_tape.proofs.laws.logs_have_no_zero.Goals as goal

pub returns : goal.returns
returns c = spellings-no-zero
