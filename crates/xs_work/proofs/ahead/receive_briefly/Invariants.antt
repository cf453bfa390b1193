use Rattle.std.proofs.Common.{◌≡◌, ℕ, List}
use Rattle.xs_session.specs.declared.manner.Manner.{Manner}
use Rattle.xs_command.specs.declared.command.Command.{Command}
use Rattle.xs_desk.specs.Callers.{Caller}
use Rattle.xs_work.specs.Ahead.{IsAheadAfter}
use Rattle.xs_work.proofs.ahead.receive_briefly.Given as goal

-- no request was taken
abbrev pub invariant-loop : goal.invariant-loop
invariant-loop g l = record {
  after : (first : Caller) (manner : Manner) (read : List ℕ) (asked put : List Command) (sent : List ℕ) → IsAheadAfter first l.initial.client manner read asked put sent l.initial.session
      → IsAheadAfter first l.client manner read asked put sent l.session;
  ended : l.session.ended ≡ l.initial.session.ended;
  held : l.session.requests ≡ l.initial.session.requests;
}
