use Rattle.std.proofs.Common.{ap, ◌∙◌, length, take}
use Rattle.std.specs.Option.{option_map}
use Rattle.xs_io.specs.Passing.{Passing, known_by}
use Rattle.xs_tape.specs.declared.before_zero.BeforeZero.{BeforeZero}
use Rattle.xs_tape.specs.BeforeZero.{rest_before}
use Rattle.xs_tape.specs.Crash.{before_zero}
use Rattle.xs_tape.specs.Records.{spellings}
use Rattle.xs_log.proofs.Crashed.{part-left, recovered, of-events}
use Rattle.xs_log.proofs.last.read_last_log.Goals as goal

pub returns-clause-err : goal.returns-clause-err
returns-clause-err g c = λ events kept left is known.
    c.read_log.ensures.err (before_zero left) (ap (λ (p : Passing). p.known) c.new-before.ensures.rest ∙ ap (option_map before_zero) known)
    (part-left c.args.number is.requests events (length (spellings (take kept is.requests))) left is.spelled is.is_log is.leaves)

pub returns-clause-ok : goal.returns-clause-ok
returns-clause-ok g c = λ events kept left is known.
    recovered c.read_log.result c.args.number _ _ c.args.recovered.now.keyspace c.read_log.new.recovered.keyspace c.args.recovered.now.last c.read_log.new.recovered.last is.requests events kept left is.spelled is.is_log is.within is.leaves
    (ap (λ (p : Passing). p.known) c.new-before.ensures.rest ∙ ap (option_map before_zero) known) c.read_log.ensures.ok

pub returns-clause-content : goal.returns-clause-content
returns-clause-content g c =
    let rest : BeforeZero g.row.R.Denot → Passing = λ b. record { known = rest_before b.met (known_by g.R.Source.rest b.inner); passed = b.passed } in
    of-events c.read_log.result c.args.number (rest c.new-before.result) (rest c.read_log.new.log) c.args.recovered.now.keyspace c.read_log.new.recovered.keyspace c.args.recovered.now.last c.read_log.new.recovered.last c.read_log.ensures.ok

pub returns-clause-cut : goal.returns-clause-cut
returns-clause-cut g c = λ left known. c.read_log.ensures.cut (before_zero left) (ap (λ (p : Passing). p.known) c.new-before.ensures.rest ∙ ap (option_map before_zero) known)
