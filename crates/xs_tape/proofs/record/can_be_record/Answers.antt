use Rattle.std.proofs.Common.{arith}
use Rattle.xs_tape.proofs.Sizes.{can_be_spelled}
use Rattle.xs_tape.proofs.record.can_be_record.Goals as goal

pub returns-then-rest : goal.returns-then-rest
returns-then-rest c = λ short first fits. can_be_spelled first c.args.rest.now (omega (arith, c.if-rest.true)) (c.are_short.ensures short) fits
