use Rattle.xs_snapshot.specs.Writing.{pieces_of_entries}
use Rattle.xs_snapshot.proofs.Putting.{IsHalfway}
use Rattle.xs_snapshot.proofs.writing.put_entries.Given as goal

abbrev pub invariant-loop-entry : goal.invariant-loop-entry
invariant-loop-entry g l = IsHalfway l.fn.writer l.writer (pieces_of_entries l.stream.entries) (pieces_of_entries l.entry-iterator)
