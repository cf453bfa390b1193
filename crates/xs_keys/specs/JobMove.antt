-- How a job moves: the arrows from place to place, and what has to move. (Redis Streams, "Consumer groups"; XREADGROUP,
-- XACK, XCLAIM.)
use Rattle.std.specs.Prelude.{◌≡◌, ◌⊎◌, Bool, true, false, not, ◌&&◌, ◌||◌, List, [], ◌∷◌, nat_le, Option, Some, None}
use Rattle.std.specs.Prelude.{if◌then◌else◌}
use Rattle.xs_command.specs.WellFormed.{IsWellFormed}
use Rattle.xs_stream.specs.declared.trim.Trim.TheVariants.{MaxLen, MinId}
use Rattle.xs_keys.specs.Terms.{option_map_or, Id, Trim, is_below, has_id, Command, Add, GroupStart, Top, At}
use Rattle.xs_keys.specs.Terms.{GroupCreate}
use Rattle.xs_keys.specs.Life.{key_life}
use Rattle.xs_keys.specs.GroupLife.{present_in}
use Rattle.xs_keys.specs.Event.{Bytes, Event, History, event_command}
use Rattle.xs_keys.specs.JobPlace.{Place, before_start, waiting, dropped, handed_out, pending, settled, place_after}
use Rattle.xs_keys.specs.Effect.{deletes_entry, may_trim_entry, reads_new_entries_in, has_noack, claims_by_id}
use Rattle.xs_keys.specs.Effect.{may_claim_entry, reader_or_claimer, acknowledges_entry, removes_consumer}
use Rattle.xs_keys.specs.Effect.{may_begin_job}
use Rattle.xs_keys.specs.Effect.{ends_group}

-- the arrows of a job's life, as the README of the repository draws them
pub data Arrow : Type 0 where
  drop_entry : Arrow  -- XDEL or a trim takes what waits
  hand_out : Arrow  -- XREADGROUP with NOACK
  deliver : Bytes → Arrow  -- XREADGROUP without NOACK, to this consumer
  claim : Bytes → Bytes → Arrow  -- XCLAIM or XAUTOCLAIM, from this consumer to that one
  acknowledge : Bytes → Arrow  -- XACK; the entry was pending with this consumer
  remove_consumer : Bytes → Arrow  -- XGROUP DELCONSUMER of this consumer
  find_deleted : Bytes → Arrow  -- a claim from this consumer that finds the entry deleted

abbrev pub source : Arrow → Place
source drop_entry = waiting
source hand_out = waiting
source (deliver consumer) = waiting
source (claim owner claimer) = pending owner
source (acknowledge owner) = pending owner
source (remove_consumer owner) = pending owner
source (find_deleted owner) = pending owner

abbrev pub target : Arrow → Place
target drop_entry = dropped
target hand_out = handed_out
target (deliver consumer) = pending consumer
target (claim owner claimer) = pending claimer
target (acknowledge owner) = settled
target (remove_consumer owner) = settled
target (find_deleted owner) = settled

-- a command that meets these ids in the stream may lead an entry along the arrow
abbrev pub Leads : Command → Bytes → Bytes → List Id → Id → Arrow → Type 0
Leads command key group present x drop_entry =
    (deletes_entry command key x || may_trim_entry command key present x) ≡ true
Leads command key group present x hand_out = (reads_new_entries_in command key group && has_noack command) ≡ true
Leads command key group present x (deliver consumer) =
    ((reads_new_entries_in command key group && not (has_noack command)) ≡ true)
    × (reader_or_claimer command ≡ Some consumer)
Leads command key group present x (claim owner claimer) =
    ((may_claim_entry command key group x && has_id present x) ≡ true) × (reader_or_claimer command ≡ Some claimer)
Leads command key group present x (acknowledge owner) = acknowledges_entry command key group x ≡ true
Leads command key group present x (remove_consumer owner) = removes_consumer command key group owner ≡ true
Leads command key group present x (find_deleted owner) =
    (may_claim_entry command key group x && not (has_id present x)) ≡ true

-- it may lead the entry from here to there
abbrev pub HasArrow : Command → Bytes → Bytes → List Id → Id → Place → Place → Type 0
HasArrow command key group present x here there =
    (arrow : Arrow) × (here ≡ source arrow) × (there ≡ target arrow) × Leads command key group present x arrow

-- some moves have to be made: a deletion drops what waits; and an acknowledgement, the deletion of its consumer, and a
-- claim by its id that finds it deleted settle what is pending
abbrev pub HasToMove : Command → Bytes → Bytes → List Id → Id → Place → Place → Type 0
HasToMove command key group present x waiting there = deletes_entry command key x ≡ true → there ≡ dropped
HasToMove command key group present x (pending consumer) there =
    (acknowledges_entry command key group x || (removes_consumer command key group consumer
    || (claims_by_id command key group x && not (has_id present x)))) ≡ true
    → there ≡ settled
HasToMove command key group present x _ there = Unit {0}

-- the entry is above the start of a new group; at `$` none is
abbrev pub is_past : GroupStart → Id → Bool
is_past Top x = false
is_past (At id) x = is_below id x

-- where a new group finds an entry that was added before
abbrev pub found_at : GroupStart → List Id → Id → Place
found_at start present x =
    if not (is_past start x) then before_start else (if has_id present x then waiting else dropped)

-- a trim drops the entry with which it comes: it leaves none, or what it leaves begins above the entry
abbrev pub trims_new : Trim → Id → Bool
trims_new (MaxLen n) x = nat_le n 0
trims_new (MinId low) x = is_below x low

-- the first place of an entry: one that is added waits or is before the start, and is dropped only by the addition's
-- own trim; one that was there before the group is where the new group finds it
abbrev pub IsFirstPlace : Command → List Id → Id → Place → Type 0
IsFirstPlace (Add add) present x before_start = Unit {0}
IsFirstPlace (Add add) present x waiting = Unit {0}
IsFirstPlace (Add add) present x dropped = option_map_or (λ trim. trims_new trim x) add.trim false ≡ true
IsFirstPlace (GroupCreate create) present x there = there ≡ found_at create.start present x
IsFirstPlace _ present x there = ⊥

-- how a command moves an entry: it comes, because it is added or the group is created; it stays at its place, or moves
-- along an arrow; or the life of the group ends
abbrev pub MovesAlong : Command → Bytes → Bytes → List Id → Id → Option Place → Option Place → Type 0
MovesAlong command key group present x None None = Unit {0}
MovesAlong command key group present x None (Some there) =
    (may_begin_job command key group ≡ true) × IsFirstPlace command present x there
MovesAlong command key group present x (Some here) None = ends_group command key group ≡ true
MovesAlong command key group present x (Some here) (Some there) =
    ((there ≡ here) ⊎ HasArrow command key group present x here there)
    × HasToMove command key group present x here there

-- no arrow leads on from here
abbrev pub is_final : Place → Bool
is_final waiting = false
is_final (pending consumer) = false
is_final _ = true

-- each of these commands is well formed, and none ends the life of the group
abbrev pub NoneEndsGroup : Bytes → Bytes → History → Type 0
NoneEndsGroup key group [] = Unit {0}
NoneEndsGroup key group (e ∷ rest) =
    IsWellFormed (event_command e) × (ends_group (event_command e) key group ≡ false) × NoneEndsGroup key group rest

-- an event leaves each entry at its place, or moves it along an arrow
abbrev pub EachMovesAlong : History → Event → Type 0
EachMovesAlong earlier e =
    (key group : Bytes) (x : Id)
    → MovesAlong (event_command e) key group (present_in (key_life earlier key)) x (place_after earlier key group x)
    (place_after (e ∷ earlier) key group x)
