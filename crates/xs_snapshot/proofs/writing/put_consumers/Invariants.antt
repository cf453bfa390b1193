use Rattle.xs_snapshot.specs.Writing.{pieces_of_consumers}
use Rattle.xs_snapshot.proofs.Putting.{IsHalfway}
use Rattle.xs_snapshot.proofs.writing.put_consumers.Given as goal

abbrev pub invariant-loop-name : goal.invariant-loop-name
invariant-loop-name g l = IsHalfway l.fn.writer l.writer (pieces_of_consumers l.group.consumers.entries) (pieces_of_consumers l.name-iterator)
