-- Which piece may come next.
use Rattle.std.specs.Prelude.{◌≡◌, ◌==◌, Bool, true, false, ◌&&◌, List, [], ◌∷◌, ◌++◌, length, Option, Some, None}
use Rattle.std.specs.Prelude.{is_none, IfNone, MatchOption}
use Rattle.std.specs.Option.{option_map_or}
use Rattle.xs_stream.specs.declared.id.Id.{Id}
use Rattle.xs_stream.specs.Id.{is_below, zero_id}
use Rattle.xs_stream.specs.StreamContent.{ids_of}
use Rattle.xs_stream.specs.ConsistentStream.{is_history_after}
use Rattle.xs_group.specs.GroupState.{GroupState, last_of}
use Rattle.xs_group.specs.NextRow.{is_next_row}
use Rattle.xs_keys.specs.Terms.{NameMap}
use Rattle.xs_keys.specs.Event.{Bytes, Entries}
use Rattle.xs_keys.specs.NextName.{is_past_names}
use Rattle.xs_replay.specs.Pieces.{Piece, of_key, of_entry, of_group, of_consumer, of_row}
use Rattle.xs_snapshot.specs.Building.{KeySoFar, Building, pieces_so_far}

-- the name of the last entry, if there is one
abbrev pub last_name : {X : Type 0} → List (Bytes × X) → Option Bytes
last_name [] = None
last_name (e ∷ []) = Some e.0
last_name (e ∷ f ∷ es) = last_name (f ∷ es)

-- the group may get this consumer next: it has no row yet, and the name is above those of all its consumers
abbrev pub is_next_consumer : Bytes → GroupState → Bool
is_next_consumer name group = (length group.rows.entries == 0) && is_past_names name group.consumers

-- the id of the last entry, or 0-0 if there is none
abbrev pub last_id : Entries → Id
last_id entries = last_of zero_id (ids_of entries)

-- the key may get an entry with this id next: it has no group yet, and the id is above that of its last entry
abbrev pub is_next_entry : Id → KeySoFar → Bool
is_next_entry id k = is_none k.group && is_below (last_id k.key.1.stream.entries) id

-- the last group of the key may get this consumer, or a row of this consumer at this id, next
abbrev pub has_next_consumer : Bytes → KeySoFar → Bool
has_next_consumer name k = option_map_or (λ g. is_next_consumer name g.1) k.group false

abbrev pub has_next_row : Bytes → Id → KeySoFar → Bool
has_next_row name id k = option_map_or (λ g. is_next_row name id g.1) k.group false

-- the name of a value, if there is one, is above those of a map
abbrev pub is_past_if_there : {X Y : Type 0} → Option (Bytes × X) → NameMap Y → Bool
is_past_if_there None m = true
is_past_if_there (Some e) m = is_past_names e.0 m

-- the key may end here: the name of its last group is above those of the others, its top isn't below its last entry,
-- and there are ids for all entries that were added
abbrev pub may_end : KeySoFar → Bool
may_end k =
    is_past_if_there k.group k.key.1.groups
    && is_history_after (last_id k.key.1.stream.entries) k.key.1.stream.top k.key.1.stream.added

-- what was read may end here: if there is a key, it may end, and its name is above those of the others
abbrev pub is_whole : Building → Bool
is_whole b = option_map_or (λ k. may_end k && is_past_names k.key.0 b.content) b.key true

-- the piece may come next
abbrev pub may_follow : Building → Piece → Bool
may_follow b (of_key name top added deleted) = is_whole b
may_follow b (of_entry id fields) = option_map_or (is_next_entry id) b.key false
may_follow b (of_group name cursor) = option_map_or (λ k. is_past_if_there k.group k.key.1.groups) b.key false
may_follow b (of_consumer name moment) = option_map_or (has_next_consumer name) b.key false
may_follow b (of_row id row) = option_map_or (has_next_row row.consumer id) b.key false

-- other groups of a key, and other keys, come only before the last one
abbrev pub AreGroupsFirst : KeySoFar → Type 0
AreGroupsFirst k = IfNone k.group (k.key.1.groups.entries ≡ [])

abbrev pub IsInOrder : Building → Type 0
IsInOrder b = MatchOption b.key (b.content.entries ≡ []) AreGroupsFirst

-- pieces of which each may follow those before it, and the end may follow the last
pub record AreFitting (pieces : List Piece) : Type 0 where
  pub follows : (b : Building) (piece : Piece) (more : List Piece) → IsInOrder b →
      pieces ≡ pieces_so_far b ++ piece ∷ more → may_follow b piece ≡ true
  pub ends : (b : Building) → IsInOrder b → pieces ≡ pieces_so_far b → is_whole b ≡ true
