use Rattle.xs_script.proofs.LineEnds.{first_place}
use Rattle.xs_script.proofs.lines.held.first_line_end.Goals as goal

pub returns : goal.returns
returns c = first_place 10 c.args.bytes.now c.memchr.result c.memchr.ensures
