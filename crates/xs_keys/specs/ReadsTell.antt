-- What the reply to a read reports: with `>` what is delivered, with an id what the consumer has. (Redis, XREADGROUP,
-- "RESP2 Reply".)
use Rattle.std.specs.Prelude.{◌≡◌, true, List, [], ◌∷◌, ◌++◌, Option, Some, option_and_then}
use Rattle.xs_keys.specs.Terms.{Id, ReadGroup, ReadGroupCommand, ReadOne, ReadFrom, New, After, Reply, Bulk, is_below}
use Rattle.xs_keys.specs.Life.{key_life, added_at}
use Rattle.xs_keys.specs.Owner.{owner}
use Rattle.xs_keys.specs.GroupLife.{GroupLife, group_life, present_in, ids_delivered_by}
use Rattle.xs_keys.specs.ReplyParts.{array}
use Rattle.xs_keys.specs.Telling.{TellsEntry, TellsEntryOrNull, TellsEach, AreFirst}
use Rattle.xs_keys.specs.Event.{Bytes, History, Entries}

-- the part of a reply for a stream with these new entries; there is none without entries
abbrev pub TellsNew : Bytes → Entries → List Id → List Reply → Type 0
TellsNew key added [] told = told ≡ []
TellsNew key added (x ∷ xs) told =
    (entries : List Reply) × (told ≡ array (Bulk key ∷ array entries ∷ []) ∷ [])
    × TellsEach (TellsEntry added) (x ∷ xs) entries

-- the owner of an entry in a group
abbrev pub owner_in : Option GroupLife → Id → Option Bytes
owner_in life x = option_and_then (λ l. owner l.start l.events x) life

-- the entry is pending with the consumer in the group, and above the id
abbrev pub IsOwnPast : Option GroupLife → Bytes → Id → Id → Type 0
IsOwnPast life consumer from x = (owner_in life x ≡ Some consumer) × (is_below from x ≡ true)

-- the part of a reply for one stream that an event reads: with `>` what the event delivers in the group, with an id the
-- first entries above it that are pending with the consumer
abbrev pub TellsRead : History → ReadGroupCommand → Bytes → ReadFrom → List Reply → Type 0
TellsRead past read key New told =
    TellsNew key (added_at past key) (ids_delivered_by past (ReadGroup read) key read.group) told
TellsRead past read key (After id) told =
    (ids : List Id) × (entries : List Reply) × (told ≡ array (Bulk key ∷ array entries ∷ []) ∷ [])
    × AreFirst (IsOwnPast (group_life past key read.group) read.consumer id) read.limit ids
    × TellsEach (TellsEntryOrNull (added_at past key) (present_in (key_life past key))) ids entries

-- the parts of all streams, in the order written
abbrev pub TellsReads : History → ReadGroupCommand → List ReadOne → List Reply → Type 0
TellsReads past read [] told = told ≡ []
TellsReads past read (one ∷ more) told =
    (first rest : List Reply) × (told ≡ first ++ rest)
    × TellsRead past read one.key one.from first × TellsReads past read more rest
