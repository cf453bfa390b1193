-- The headline: what is true of the replies to a run of commands, and of each entry and each group at each time of it.
use Rattle.std.specs.Prelude.{◌≡◌, ◌⊎◌, Some, List, [], ◌∷◌}
use Rattle.xs_keys.specs.Terms.{Reply, Ascends, ids_of}
use Rattle.xs_command.specs.WellFormed.{IsWellFormed}
use Rattle.xs_keys.specs.Life.{KeyLife, key_life, added_in}
use Rattle.xs_keys.specs.Content.{Content, IsContent}
use Rattle.xs_keys.specs.ConsistentContent.{IsConsistentContent}
use Rattle.xs_keys.specs.ContentAfter.{content_after}
use Rattle.xs_keys.specs.GroupLife.{GroupLife, group_life, ids_delivered_by, LifeContinues}
use Rattle.xs_keys.specs.PlacesAddUp.{EachHasAPlace}
use Rattle.xs_keys.specs.JobMove.{EachMovesAlong}
use Rattle.xs_keys.specs.Presence.{EntriesAreAdded, EntriesStay, GroupsAreCreated, GroupsStay}
use Rattle.xs_keys.specs.Event.{Bytes, Event, History, event_moment, event_command}
use Rattle.xs_keys.specs.EachDelivery.{DeliversNew}
use Rattle.xs_keys.specs.EachOwner.{OwnersAndClaims}
use Rattle.xs_keys.specs.EachReply.{AreReplied}
use Rattle.xs_keys.specs.AtEach.{AtEach, AtEachTime}

-- Holds is true of the open life of each group, after any history
abbrev pub OfEachLife : (GroupLife → Type 0) → Type 0
OfEachLife Holds =
    (past : History) (key group : Bytes) (life : GroupLife)
    → group_life past key group ≡ Some life → Holds life

-- Holds is true of the open life of each group, at each time of a history
abbrev pub OfEachLifeIn : History → (GroupLife → Type 0) → Type 0
OfEachLifeIn history Holds = AtEachTime history (λ past.
    (key group : Bytes) (life : GroupLife) → group_life past key group ≡ Some life → Holds life)

-- at each time of a history, the ids added in the open life of each key ascend
abbrev pub IdsAscend : History → Type 0
IdsAscend history = AtEachTime history (λ past.
    (key : Bytes) (stream : KeyLife) → key_life past key ≡ Some stream → Ascends (ids_of (added_in stream)))

-- each command of a history is well formed
abbrev pub AreWellFormed : History → Type 0
AreWellFormed [] = Unit {0}
AreWellFormed (e ∷ past) = IsWellFormed (event_command e) × AreWellFormed past

-- Holds is true of each event of a history after a run; if there was a past before the run, only if all of the past, or
-- this event, is well formed. The commands of a run are.
abbrev pub AtEachEvent : History → History → (History → Event → Type 0) → Type 0
AtEachEvent [] history Holds = AtEach history Holds
AtEachEvent (newest ∷ older) history Holds = AtEach history (λ earlier e.
    AreWellFormed (newest ∷ older) ⊎ IsWellFormed (event_command e) → Holds earlier e)

-- the lives of a group are apart: what is delivered in a life is what its own events deliver, one after the other, and
-- an event delivers nothing in a group that has no open life
abbrev pub LivesAreApart : History → Event → Type 0
LivesAreApart earlier e =
    (key group : Bytes)
    → LifeContinues (group_life earlier key group) (ids_delivered_by earlier (event_command e) key group)
    (group_life (e ∷ earlier) key group)

-- each event of a history leads from the content before it to the content after it, and each content is consistent
abbrev pub StepsAreConsistent : History → Type 0
StepsAreConsistent history = AtEach history (λ earlier e.
    (content : Content) → IsContent content earlier
    → IsConsistentContent content × IsContent (content_after content (event_moment e) (event_command e)) (e ∷ earlier))

-- what is true of a run over a past, of the replies that the program gave, and of the history after it
pub record Headline
    (past : History) (run : List Event) (answers : List Reply) (history : History) : Type 0 where
  -- each reply is the model's, and reports what was done; contents are consistent
  pub replies : AreReplied past run answers history
  pub formed : AreWellFormed past → AreWellFormed history
  pub steps_are_consistent : StepsAreConsistent history
  -- each job has one place, and moves only along the arrows; entries and groups come and go by their own commands
  pub places : EachHasAPlace history
  pub moves : AtEachEvent past history EachMovesAlong
  pub entries_are_added : AtEachEvent past history EntriesAreAdded
  pub entries_stay : AtEachEvent past history EntriesStay
  pub groups_are_created : AtEachEvent past history GroupsAreCreated
  pub groups_stay : AtEachEvent past history GroupsStay
  -- each delivery is in id order, once, and of the entries in the stream at their turn
  pub deliveries : OfEachLifeIn history DeliversNew
  pub ids_ascend : IdsAscend history
  -- each owner has the entry until it is settled or claimed
  pub owners : OfEachLifeIn history OwnersAndClaims
  -- lives of a group are apart
  pub lives_are_apart : AtEachEvent past history LivesAreApart

-- after any history with the old content, the headline holds for the run, and the new content is consistent, and is
-- that of the history with the events that were applied
abbrev pub RunsOn : Content → List Event → List Reply → Content → Type 0
RunsOn old run answers new =
    (past : History) → IsContent old past
    → (history : History)
    × Headline past run answers history × IsContent new history × IsConsistentContent new
