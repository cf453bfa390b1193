use Rattle.std.proofs.Common.{◌≡◌, ℕ, List}
use Rattle.xs_session.specs.declared.manner.Manner.{Manner}
use Rattle.xs_command.specs.declared.command.Command.{Command}
use Rattle.xs_desk.specs.Callers.{Caller}
use Rattle.xs_work.specs.Ahead.{IsAheadAfter}
use Rattle.xs_work.proofs.ahead.receive.Given as goal

-- there are no more unsent bytes, and no request was taken
abbrev pub invariant-loop : goal.invariant-loop
invariant-loop g l = record {
  after : (first : Caller) (manner : Manner) (read : List ℕ) (asked put : List Command) (sent : List ℕ) → IsAheadAfter first l.fn.client manner read asked put sent l.fn.session
      → IsAheadAfter first l.client manner read asked put sent l.session;
  owed : l.session.owed ≡ l.fn.session.owed;
  ended : l.session.ended ≡ l.fn.session.ended;
  held : l.session.requests ≡ l.fn.session.requests;
}
