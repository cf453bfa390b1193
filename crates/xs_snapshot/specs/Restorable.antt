-- Which contents can be restored from a snapshot.
use Rattle.std.specs.Prelude.{◌≡◌, ℕ, true, List}
use Rattle.std.specs.List.{AllByRecursion}
use Rattle.xs_stream.specs.Id.{zero_id}
use Rattle.xs_stream.specs.StreamContent.{StreamState, ids_of, Ascends, AllAbove}
use Rattle.xs_stream.specs.ConsistentStream.{is_history_after}
use Rattle.xs_group.specs.GroupState.{GroupState}
use Rattle.xs_group.specs.ConsistentGroup.{IsUpTo}
use Rattle.xs_group.specs.Indexes.{IsNamed}
use Rattle.xs_keys.specs.Content.{KeyState, Content}
use Rattle.xs_snapshot.specs.NextPiece.{last_id}

-- the ids ascend from above 0-0, the top isn't below the last one, and there are ids for all entries that were added
pub record IsRestorableStream (stream : StreamState) : Type 0 where
  pub above_zero : AllAbove zero_id (ids_of stream.entries)
  pub ascends : Ascends (ids_of stream.entries)
  pub history : is_history_after (last_id stream.entries) stream.top stream.added ≡ true

-- each row is of one of the consumers, and none is above the cursor
pub record IsRestorableGroup (group : GroupState) : Type 0 where
  pub of_consumers : IsNamed group.consumers group.rows
  pub up_to_cursor : IsUpTo group.cursor group.rows

abbrev pub AreRestorableGroups : List (List ℕ × GroupState) → Type 0
AreRestorableGroups groups = AllByRecursion (λ e. IsRestorableGroup e.1) groups

pub record IsRestorableKey (key : KeyState) : Type 0 where
  pub stream : IsRestorableStream key.stream
  pub groups : AreRestorableGroups key.groups.entries

abbrev pub IsRestorable : Content → Type 0
IsRestorable content = AllByRecursion (λ e. IsRestorableKey e.1) content.entries
