use Rattle.std.proofs.Common.{ap, ◌∙◌, subst}
use Rattle.xs_tape.specs.Tape.{Appends}
use Rattle.xs_tape.specs.Writing.{Writing}
use Rattle.xs_tape.proofs.Puts.{appended_long}
use Rattle.xs_tape.proofs.log_writer.LogWriter.put_long.Goals as goal

pub returns-clause-puts : goal.returns-clause-puts
returns-clause-puts g c =
    let flushed = c.in_ok-flush.ensures in
    let bytes = c.args.bytes.now in
    let appends = subst (λ (w : Writing). Appends c.append.result bytes w.holds (g.T.Tape.holds c.append.new.self)) c.self.view_is c.append.ensures.bytes in
    appended_long _ c.append.result bytes c.args.self.now c.flush.new.self _ flushed.puts appends flushed.pending flushed.fault c.append.ensures.fault (ap (λ (w : Writing). w.pending) c.self.view_is ∙ flushed.pending)
