use Rattle.std.proofs.Common.{◌≡◌, ℕ, ◌+◌, ◌*◌, List, length}
use Rattle.xs_io.specs.Passing.{Consumes, Appends}
use Rattle.xs_io.specs.Device.{counter_at}
use Rattle.xs_script.specs.Cause.{reads_limit}
use Rattle.xs_script.specs.ScriptRun.{ScriptIsAfter}
use Rattle.xs_script.proofs.run.drive.Given as goal

-- these bytes were read, and these were written
abbrev pub invariant-steps : goal.invariant-steps
invariant-steps g l = record {
  read : List ℕ;
  sent : List ℕ;
  consumes : Consumes (g.R.Source.rest l.initial.reader) (g.R.Source.rest l.reader) read;
  appends : Appends (g.W.Sink.held l.initial.writer) (g.W.Sink.held l.writer) sent;
  stands : ScriptIsAfter read sent l.script l.keyspace;
  counted : counter_at (g.R.Source.calls l.reader + l.left) ≡ counter_at (g.R.Source.calls l.initial.reader + reads_limit);
}

abbrev pub decreases-steps : goal.decreases-steps
decreases-steps g l = l.left * 65537 + length l.script.held
