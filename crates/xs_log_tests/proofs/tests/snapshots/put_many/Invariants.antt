use Rattle.std.proofs.Common.{◌≡◌, false}
use Rattle.xs_log_tests.proofs.tests.snapshots.put_many.Given as goal

abbrev pub invariant-loop : goal.invariant-loop
invariant-loop l = l.writer.writing.broken ≡ false
