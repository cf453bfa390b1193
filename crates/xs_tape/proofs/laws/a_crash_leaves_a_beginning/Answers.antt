use Rattle.xs_tape.proofs.Crashes.{before_zero-written, before_zero-kept}
use Rattle.xs_tape.proofs.laws.a_crash_leaves_a_beginning.Goals as goal

pub returns : goal.returns
returns c = λ kept written file none leaves.
    let more = before_zero-kept kept written file none leaves.within leaves.sure in
    let rest = before_zero-written written file leaves.others in
    (more.0, rest.0, more.1, rest.1)
