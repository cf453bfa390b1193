use Rattle.xs_tape.proofs.Crashes.{leaves-more}
use Rattle.xs_tape.proofs.laws.a_tape_grows.Goals as goal

pub returns : goal.returns
returns c = leaves-more
