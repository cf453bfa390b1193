use Rattle.std.proofs.Common.{◌≡◌, ℕ, List, [], ◌++◌, length}
use Rattle.xs_io.specs.Passing.{Appends}
use Rattle.xs_resp.specs.declared.reply.Reply.{Reply}
use Rattle.xs_resp.specs.LeftToWrite.{bytes_left}
use Rattle.xs_command.specs.declared.command.Command.{Command}
use Rattle.xs_session.specs.declared.manner.Manner.{Manner}
use Rattle.xs_session.specs.Places.{has_open}
use Rattle.xs_session.specs.Session.{SessionIsAfter}
use Rattle.xs_work.proofs.ahead.send_ready.Given as goal

-- bytes are sent, and all answers that are begun are sent
abbrev pub invariant-answers : goal.invariant-answers
invariant-answers g l = record {
  sends : (manner : Manner) (read : List ℕ) (asked : List Command) (got : List Reply) (sent : List ℕ) → SessionIsAfter manner read asked got sent l.fn.session
      → (went : List ℕ) × Appends (g.W.Sink.held l.fn.writer) (g.W.Sink.held l.writer) went × SessionIsAfter manner read asked got (sent ++ went) l.session;
  owed : bytes_left l.session.owed ≡ [];
  waits : has_open l.session.places ≡ has_open l.fn.session.places;
  ended : l.session.ended ≡ l.fn.session.ended;
  held : l.session.requests ≡ l.fn.session.requests;
}

abbrev pub decreases-answers : goal.decreases-answers
decreases-answers g l = length l.session.places
