-- What is true within a group, a key and a keyspace that aren't complete yet.
use Rattle.std.specs.Prelude.{◌≡◌, List, [], Option, IfNone, MatchOption}
use Rattle.std.specs.List.{AllByRecursion}
use Rattle.xs_stream.specs.Id.{zero_id}
use Rattle.xs_stream.specs.StreamContent.{StreamInMemory, ids_of, Ascends, AllAbove}
use Rattle.xs_group.specs.GroupState.{GroupState}
use Rattle.xs_keys.specs.Terms.{NameMap}
use Rattle.xs_keys.specs.Event.{Bytes}
use Rattle.xs_keys.specs.Content.{Content}
use Rattle.xs_snapshot.specs.Building.{KeySoFar}
use Rattle.xs_snapshot.specs.NextPiece.{last_name, last_id, AreGroupsFirst}
use Rattle.xs_snapshot.specs.Restorable.{IsRestorableGroup, IsRestorable}

-- groups that are restorable
abbrev pub AreRestorableGroups : List (Bytes × GroupState) → Type 0
AreRestorableGroups groups = AllByRecursion (λ e. IsRestorableGroup e.1) groups

-- the name of the last consumer is known, and the group is restorable
pub record IsGroupSoFar (last_consumer : Option Bytes) (group : GroupState) : Type 0 where
  pub last_is : last_consumer ≡ last_name group.consumers.entries
  pub restorable : IsRestorableGroup group

-- the top of the stream is the id of the last entry; other groups come only before the last one; and the entries and
-- these groups are restorable
pub record IsKeySoFar
    (stream : StreamInMemory) (groups : NameMap GroupState) (group : Option (Bytes × GroupState)) : Type 0 where
  pub top_is_last : stream.top ≡ last_id stream.entries
  pub groups_are_first : IfNone group (groups.entries ≡ [])
  pub above_zero : AllAbove zero_id (ids_of stream.entries)
  pub ascends : Ascends (ids_of stream.entries)
  pub restorable : AreRestorableGroups groups.entries

-- other keys come only before the last one, and are restorable
pub record IsKeyspaceSoFar (content : Content) (key : Option KeySoFar) : Type 0 where
  pub in_order : MatchOption key (content.entries ≡ []) AreGroupsFirst
  pub restorable : IsRestorable content
