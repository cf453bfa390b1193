use Rattle.std.proofs.Common.{◌≡◌, false}
use Rattle.std.specs.Prelude.{◌||◌}
use Rattle.xs_log_tests.proofs.tests.tape_logs.keep_records.Given as goal

abbrev pub invariant-loop-number : goal.invariant-loop-number
invariant-loop-number l = (l.log.failed || l.log.writer.broken) ≡ false
