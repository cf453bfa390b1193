use Rattle.std.proofs.Common.{rules, sym, ap, ◌∙◌, inl}
use Rattle.xs_command.specs.Read.{command_of_words}
use Rattle.xs_session.proofs.Answering.{kept-refused}
use Rattle.xs_session.proofs.taking.take_request.Goals as goal

pub returns-then-not-goes_at_once-clause-taken : goal.returns-then-not-goes_at_once-clause-taken
returns-then-not-goes_at_once-clause-taken g c =
    inl (kept-refused c.args.manner.now c.args.standing.now c.enqueue.new.standing c.args.words c.enqueue.result (search rules)
    (c.in-Ok.command, ap command_of_words (sym c.again-2.ensures) ∙ c.in-Ok.ensures.exact, sym c.if-not-goes_at_once.ensures, c.enqueue.ensures))
