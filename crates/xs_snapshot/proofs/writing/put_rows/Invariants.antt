use Rattle.xs_snapshot.specs.Writing.{pieces_of_rows}
use Rattle.xs_snapshot.proofs.Putting.{IsHalfway}
use Rattle.xs_snapshot.proofs.writing.put_rows.Given as goal

abbrev pub invariant-loop-row : goal.invariant-loop-row
invariant-loop-row g l = IsHalfway l.fn.writer l.writer (pieces_of_rows l.group.rows.entries) (pieces_of_rows l.row-iterator)
