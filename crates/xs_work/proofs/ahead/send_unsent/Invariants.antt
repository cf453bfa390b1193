use Rattle.std.proofs.Common.{◌≡◌, ℕ, List, ◌++◌, length}
use Rattle.xs_io.specs.Passing.{Appends}
use Rattle.xs_resp.specs.declared.reply.Reply.{Reply}
use Rattle.xs_resp.specs.LeftToWrite.{bytes_left}
use Rattle.xs_command.specs.declared.command.Command.{Command}
use Rattle.xs_session.specs.declared.manner.Manner.{Manner}
use Rattle.xs_session.specs.Session.{SessionIsAfter}
use Rattle.xs_work.proofs.ahead.send_unsent.Given as goal

-- these bytes are sent
abbrev pub invariant-pieces : goal.invariant-pieces
invariant-pieces g l = record {
  went : List ℕ;
  appends : Appends (g.W.Sink.held l.initial.writer) (g.W.Sink.held l.writer) went;
  after : (manner : Manner) (read : List ℕ) (asked : List Command) (got : List Reply) (sent : List ℕ) → SessionIsAfter manner read asked got sent l.initial.session → SessionIsAfter manner read asked got (sent ++ went) l.session;
  owed : bytes_left l.initial.session.owed ≡ went ++ bytes_left l.session.owed;
  places : l.session.places ≡ l.initial.session.places;
  ended : l.session.ended ≡ l.initial.session.ended;
  held : l.session.requests ≡ l.initial.session.requests;
}

abbrev pub decreases-pieces : goal.decreases-pieces
decreases-pieces g l = length (bytes_left l.session.owed)
