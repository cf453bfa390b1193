use Rattle.std.proofs.Common.{◌≡◌, ℕ, ◌<◌, List, length}
use Rattle.xs_resp.specs.declared.reply.Reply.{Reply}
use Rattle.xs_command.specs.declared.command.Command.{Command}
use Rattle.xs_session.specs.declared.manner.Manner.{Manner}
use Rattle.xs_session.specs.Places.{has_open}
use Rattle.xs_session.specs.Session.{SessionIsAfter}
use Rattle.xs_work.proofs.ahead.gather_answers.Given as goal

-- answers are begun, and nothing else is done
abbrev pub invariant-answers : goal.invariant-answers
invariant-answers l = record {
  after : (manner : Manner) (read : List ℕ) (asked : List Command) (got : List Reply) (sent : List ℕ) → SessionIsAfter manner read asked got sent l.fn.session
      → SessionIsAfter manner read asked got sent l.session;
  fewer : length l.session.places < length l.fn.session.places;
  waits : has_open l.session.places ≡ has_open l.fn.session.places;
  ended : l.session.ended ≡ l.fn.session.ended;
  held : l.session.requests ≡ l.fn.session.requests;
}

abbrev pub decreases-answers : goal.decreases-answers
decreases-answers l = length l.session.places
