use Rattle.xs_tape.proofs.Searches.{first_zero}
use Rattle.xs_tape.proofs.before_zero.zero_at.Goals as goal

pub returns : goal.returns
returns c = first_zero c.args.bytes.now c.memchr.result c.memchr.ensures
