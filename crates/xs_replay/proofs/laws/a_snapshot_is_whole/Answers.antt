use Rattle.std.proofs.Common.{[], sym, subst}
use Rattle.std.proofs.lemmas.List.{append-nil}
use Rattle.xs_replay.specs.Snapshot.{IsSnapshotFile}
use Rattle.xs_replay.proofs.SnapshotsRead.{same-file, crash-whole}
use Rattle.xs_replay.proofs.laws.a_snapshot_is_whole.Goals as goal

pub returns-clause-only : goal.returns-clause-only
returns-clause-only c = λ number other bytes state found is may.
    let same = same-file number other bytes [] state found is (subst (λ b. IsSnapshotFile other b found) (sym (append-nil bytes)) may) in
    (same.0, same.1)

pub returns-clause-whole : goal.returns-clause-whole
returns-clause-whole c = λ number other bytes more state found some is may. some (same-file number other bytes more state found is may).2

pub returns-clause-crash : goal.returns-clause-crash
returns-clause-crash c = crash-whole
