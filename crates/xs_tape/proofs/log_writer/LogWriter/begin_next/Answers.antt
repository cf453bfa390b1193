use Rattle.xs_tape.specs.Writing.{Keeps}
use Rattle.std.proofs.Common.{length, subst}
use Rattle.xs_tape.proofs.log_writer.LogWriter.begin_next.Goals as goal

pub returns-clause-closes : goal.returns-clause-closes
returns-clause-closes g c = λ closed text has.
    c.begin_file.ensures.closes closed text (subst (λ r. Keeps r c.commit.new.self closed text (length text)) c.in_ok-commit.was (c.commit.ensures.keeps closed text (length text) has))
