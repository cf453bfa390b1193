use Rattle.std.proofs.lemmas.Bool.{lt-ltb}
use Rattle.xs_tape.proofs.Heads.{no_head_short, cut_is_short}
use Rattle.xs_tape.proofs.head.may_be_cut.Goals as goal

pub returns-in_default-clause-cut : goal.returns-in_default-clause-cut
returns-in_default-clause-cut c = λ cut. lt-ltb _ _ (no_head_short c.args.part.now cut c.in_default.ensures)

pub returns-clause-cut : goal.returns-clause-cut
returns-clause-cut c = λ cut. lt-ltb _ _ (cut_is_short c.args.part.now c.in-Some.size c.in-Some.behind.now cut c.in-Some.ensures)
