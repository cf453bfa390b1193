use Rattle.xs_replay.specs.Pieces.{pieces_of}
use Rattle.xs_snapshot.specs.Restorable.{IsRestorable}
use Rattle.xs_snapshot.proofs.Putting.{IsHalfway, pieces_of_keys, AreRestorableKeys}
use Rattle.xs_snapshot.proofs.writing.put_keys.Given as goal

abbrev pub invariant-loop-name : goal.invariant-loop-name
invariant-loop-name g l = record {
  half : IsHalfway l.fn.writer l.writer (pieces_of l.keyspace) (pieces_of_keys l.name-iterator);
  restorable : AreRestorableKeys l.name-iterator → IsRestorable l.keyspace;
}
