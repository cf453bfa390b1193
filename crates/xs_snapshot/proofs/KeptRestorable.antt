-- What the types of streams and groups ensure is restorable.
use Rattle.std.proofs.Common.{◌≡◌, ℕ, ◌≤◌, Bool, true, false, not, ◌&&◌, nat_le, List, [], ◌∷◌, refl, arith}
use Rattle.std.proofs.lemmas.Bool.Decides.{nat_tests}
use Rattle.xs_stream.specs.declared.id.Id.{Id}
use Rattle.xs_stream.specs.Id.{is_below, zero_id}
use Rattle.xs_stream.specs.StreamContent.{StreamState, AllUpTo, ids_of}
use Rattle.xs_stream.specs.ConsistentStream.{AreValid, IsId, rank_of, is_history_after}
use Rattle.xs_stream.proofs.Past.{rank-below}
use Rattle.xs_group.specs.GroupState.{GroupState, last_of}
use Rattle.xs_group.specs.ConsistentGroup.{IsConsistentGroup}
use Rattle.xs_snapshot.specs.NextPiece.{last_id}
use Rattle.xs_snapshot.specs.Restorable.{IsRestorableStream, IsRestorableGroup}

not-below-zero : (id : Id) → IsId id → is_below id zero_id ≡ false
not-below-zero id is = by (is_below id zero_id) refl where
  by : (t : Bool) → is_below id zero_id ≡ t → t ≡ false
  by true e = let less = rank-below id zero_id is.1 e in absurd (omega (arith, less))
  by false e = refl

last-up_to : (top id : Id) (ids : List Id) → is_below top id ≡ false → AllUpTo top ids → is_below top (last_of id ids) ≡ false
last-up_to top id [] up all = up
last-up_to top id (x ∷ xs) up all = last-up_to top x xs all.0 all.1

history-is : (a : Bool) (n m : ℕ) → a ≡ false → n ≤ m → (not a && nat_le n m) ≡ true
history-is a n m e le = rw e (grind (arith, nat_tests))

pub history-of-stream : (stream : StreamState) → IsId stream.top → AllUpTo stream.top (ids_of stream.entries) → stream.added ≤ rank_of stream.top
    → is_history_after (last_id stream.entries) stream.top stream.added ≡ true
history-of-stream stream top up few =
    history-is (is_below stream.top (last_id stream.entries)) stream.added (rank_of stream.top) (last-up_to stream.top zero_id (ids_of stream.entries) (not-below-zero stream.top top) up) few

pub stream-kept : (stream : StreamState) → AreValid stream.top stream.entries → stream.added ≤ rank_of stream.top → IsRestorableStream stream
stream-kept stream valid few = record {
  above_zero = valid.above_zero;
  ascends = valid.consistent.ascends;
  history = history-of-stream stream valid.top_is_id valid.consistent.up_to_top few;
}

pub group-restorable : (group : GroupState) → IsConsistentGroup group → IsRestorableGroup group
group-restorable group is = record { of_consumers = is.of_consumers; up_to_cursor = is.up_to_cursor }
