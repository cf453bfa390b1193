use Rattle.xs_snapshot.specs.Restorable.{AreRestorableGroups}
use Rattle.xs_snapshot.specs.Writing.{pieces_of_groups}
use Rattle.xs_snapshot.proofs.Putting.{IsHalfway}
use Rattle.xs_snapshot.proofs.writing.put_groups.Given as goal

abbrev pub invariant-loop-name : goal.invariant-loop-name
invariant-loop-name g l = record {
  half : IsHalfway l.fn.writer l.writer (pieces_of_groups l.groups.entries) (pieces_of_groups l.name-iterator);
  restorable : AreRestorableGroups l.name-iterator → AreRestorableGroups l.groups.entries;
}
