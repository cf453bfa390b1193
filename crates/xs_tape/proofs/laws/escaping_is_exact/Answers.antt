use Rattle.xs_tape.proofs.Escapes.{escaped-one}
use Rattle.xs_tape.proofs.Zeros.{escaped-no-zero}
use Rattle.xs_tape.proofs.laws.escaping_is_exact.Goals as goal

pub returns-clause-one : goal.returns-clause-one
returns-clause-one c = escaped-one

pub returns-clause-no_zero : goal.returns-clause-no_zero
returns-clause-no_zero c = escaped-no-zero
