use Rattle.xs_tape.proofs.Firsts.{the-first}
use Rattle.xs_tape.proofs.laws.the_first_are_read.Goals as goal

pub returns : goal.returns
returns c = λ written bytes more requests part can e are. the-first written bytes more requests part can e are.whole are.spelled are.unfinished
