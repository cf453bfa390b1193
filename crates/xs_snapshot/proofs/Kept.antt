-- A tape that keeps the pieces of a state keeps a snapshot of it.
use Rattle.std.proofs.Common.{ℕ, List, Option, Some, None}
use Rattle.xs_tape.specs.Tape.{TapeBytes}
use Rattle.xs_replay.specs.After.{ServerState}
use Rattle.xs_replay.specs.Pieces.{pieces_of}
use Rattle.xs_log.specs.SnapshotWriting.{KeepsPieces}
use Rattle.xs_log.proofs.SnapshotLaws.{file_is}
use Rattle.xs_snapshot.specs.Writing.{KeepsSnapshot}

pub snapshot_kept : (number : ℕ) (closed : List (List ℕ)) (holds : Option TapeBytes) (state : ServerState) → KeepsPieces number closed holds state.moment (pieces_of state.content)
    → KeepsSnapshot number closed holds state
snapshot_kept number closed None state kept = tt
snapshot_kept number closed (Some tape) state kept = (kept.0, file_is number tape.written state kept.1, kept.2)
