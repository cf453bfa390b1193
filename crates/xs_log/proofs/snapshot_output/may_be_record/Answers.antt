use Rattle.std.proofs.Common.{arith}
use Rattle.xs_tape.proofs.Sizes.{escaped-short}
use Rattle.xs_log.proofs.ShortWords.{short_spelled}
use Rattle.xs_log.proofs.snapshot_output.may_be_record.Goals as goal

pub returns-then-are_short-clause-yes : goal.returns-then-are_short-clause-yes
returns-then-are_short-clause-yes c = λ e first small. short_spelled first c.args.rest.now small (c.are_short.ensures.yes c.if-are_short.true)

pub returns-clause-yes : goal.returns-clause-yes
returns-clause-yes c = λ e first small. c.can_be_record.ensures e first (omega (arith, escaped-short first, small))
