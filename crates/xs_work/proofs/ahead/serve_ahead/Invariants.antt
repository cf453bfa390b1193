use Rattle.std.proofs.Common.{ℕ, List}
use Rattle.xs_io.specs.Passing.{Appends, Consumes}
use Rattle.xs_command.specs.declared.command.Command.{Command}
use Rattle.xs_work.specs.Ahead.{IsAheadAfter}
use Rattle.xs_work.proofs.ahead.serve_ahead.Given as goal

-- these bytes were read and sent, and all that was asked is submitted
abbrev pub invariant-loop : goal.invariant-loop
invariant-loop g l = record {
  read : List ℕ;
  sent : List ℕ;
  consumes : Consumes (g.R.Source.rest l.fn.reader) (g.R.Source.rest l.reader) read;
  appends : Appends (g.W.Sink.held l.fn.writer) (g.W.Sink.held l.writer) sent;
  asked : List Command;
  after : IsAheadAfter l.fn.client l.client l.fn.manner read asked asked sent l.session;
}
