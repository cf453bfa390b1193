-- What replies report about entries: an addition the one that it adds, a read with `>` those that it delivers, one with
-- an id those that its consumer has, and a claim those that it takes, each as it was added; XPENDING what is pending;
-- and an acknowledgement, a deletion and a trim how many they remove. (Redis, XADD, XREADGROUP, XCLAIM, XAUTOCLAIM,
-- XPENDING, XACK, XDEL, XTRIM and XLEN, "RESP2 Reply".)
use Rattle.std.specs.Prelude.{◌≡◌, ◌⊎◌, ℕ, ◌+◌, ◌-◌, ◌≤◌, Bool, true, false, List, [], ◌∷◌, ◌++◌, map, length, Option}
use Rattle.std.specs.Prelude.{Some, None, is_some}
use Rattle.xs_stream.specs.StreamContent.{is_within}
use Rattle.xs_group.specs.declared.claims.Scan.{Scan}
use Rattle.xs_group.specs.declared.claims.Claim as claims
use Rattle.xs_command.specs.declared.command.PendingRowsCommand.{PendingRowsCommand}
use Rattle.xs_command.specs.declared.command.Inspection.{Inspection}
use Rattle.xs_keys.specs.Terms.{option_map_or, Id, Field, Command, Add, Delete, TrimTo, Len, ReadGroup, Ack, Pending}
use Rattle.xs_keys.specs.Terms.{PendingRows, Claim, AutoClaim, Inspect, Reply, Error, NoGroup, Int, Bulk, NullBulk, zero_id}
use Rattle.xs_keys.specs.Terms.{has_id}
use Rattle.xs_keys.specs.Life.{key_life, added_at}
use Rattle.xs_keys.specs.GroupAsk.{GroupAsk, claim, auto_claim, no_claim}
use Rattle.xs_keys.specs.GroupEvent.{GroupEvent, claim_of_event, scan_end_of_event, rows}
use Rattle.xs_keys.specs.Owner.{owner}
use Rattle.xs_keys.specs.TimesAndCounts.{time_of, count_of}
use Rattle.xs_keys.specs.GroupLife.{GroupLife, group_life, present_in, has_all_groups}
use Rattle.xs_keys.specs.Content.{Content, IsContent}
use Rattle.xs_keys.specs.InspectionReply.{inspection_reply}
use Rattle.xs_keys.specs.ReplyParts.{array, array_or_null, id_reply}
use Rattle.xs_keys.specs.Telling.{TellsEntry, TellsEach, AreFirst}
use Rattle.xs_keys.specs.Step.{is_error}
use Rattle.xs_keys.specs.Event.{Bytes, Event, History, Entries}
use Rattle.xs_keys.specs.ReadsTell.{owner_in, TellsReads}

-- an addition reports the id of the one entry that it adds, with its fields; or that it adds none: by an error, or by
-- the null bulk string if it may not create the key
abbrev pub TellsAddition : Entries → List Field → Reply → Entries → Type 0
TellsAddition before fields answer after =
    ((id : Id) × (answer ≡ id_reply id) × (after ≡ before ++ (id, fields) ∷ []))
    ⊎ (((is_error answer ≡ true) ⊎ (answer ≡ NullBulk)) × (after ≡ before))

-- a number, by which there are fewer after the event than before it
abbrev pub TellsFewer : (History → ℕ) → History → Event → Reply → Type 0
TellsFewer count past event answer = (n : ℕ) × (answer ≡ Int n) × (n + count (event ∷ past) ≡ count past)

-- the number of entries in the stream of a key, and the number of pending ones in a group
abbrev pub present_count : Bytes → History → ℕ
present_count key past = length (present_in (key_life past key))

abbrev pub pending_count : Bytes → Bytes → History → ℕ
pending_count key group past =
    option_map_or (λ life. length (rows life.start life.events)) (group_life past key group) 0

-- what a claim takes and removes in a group, and the cursor that a scan returns
abbrev pub scan_at : History → ℕ → Bytes → Bytes → GroupAsk → Scan
scan_at past now key group ask =
    let event : GroupEvent = record { now = now; present = present_in (key_life past key); ask = ask } in
    let scan : GroupLife → Scan = λ life. record {
      cursor = scan_end_of_event event (rows life.start life.events);
      claim = claim_of_event event (rows life.start life.events);
    } in
    option_map_or scan (group_life past key group) (record { cursor = zero_id; claim = no_claim })

-- what is taken is the consumer's from then on, what is removed has no owner, and all else stays with its owner
pub record IsAssigned (consumer : Bytes) (found : claims.Claim) (before after : Option GroupLife) : Type 0 where
  pub taken : (x : Id) → has_id found.take x ≡ true → owner_in after x ≡ Some consumer
  pub removed : (x : Id) → has_id found.removed x ≡ true → owner_in after x ≡ None
  pub others :
      (x : Id) → has_id found.take x ≡ false → has_id found.removed x ≡ false → owner_in after x ≡ owner_in before x

-- the entries that a claim takes, or under JUSTID only their ids
abbrev pub TellsTaken : Bool → Entries → List Id → List Reply → Type 0
TellsTaken true added ids told = TellsEach (λ x answer. answer ≡ id_reply x) ids told
TellsTaken false added ids told = TellsEach (TellsEntry added) ids told

-- an XPENDING with a range asks for the entry: it is pending, within the range, has been for long enough, and belongs
-- to the consumer if one is named
pub record IsAskedRow (asked : PendingRowsCommand) (now : ℕ) (life : GroupLife) (x : Id) : Type 0 where
  pub consumer : Bytes
  pub owned : owner life.start life.events x ≡ Some consumer
  pub within : is_within asked.range x ≡ true
  pub long_enough : asked.min_idle ≤ now - time_of life.start life.events x
  pub named : (name : Bytes) → asked.consumer ≡ Some name → consumer ≡ name

-- the row of an entry: the id, its owner, its idle time, and the number of its deliveries
abbrev pub TellsRow : ℕ → GroupLife → Id → Reply → Type 0
TellsRow now life x answer =
    (consumer : Bytes) × (owner life.start life.events x ≡ Some consumer)
    × (answer ≡ array (id_reply x ∷ Bulk consumer ∷ Int (now - time_of life.start life.events x)
    ∷ Int (count_of life.start life.events x) ∷ []))

-- the first rows that are asked for
abbrev pub TellsRows : PendingRowsCommand → ℕ → GroupLife → Reply → Type 0
TellsRows asked now life answer =
    (ids : List Id) × (told : List Reply) × (answer ≡ array told)
    × AreFirst (IsAskedRow asked now life) (Some asked.limit) ids × TellsEach (TellsRow now life) ids told

-- if the groups that are named exist, the reply reports this; if not, it is an error
abbrev pub IfThere : Bool → Reply → Type 0 → Type 0
IfThere there answer Told = (there ≡ true → Told) × (there ≡ false → answer ≡ Error NoGroup)

-- a question about the content of the past
abbrev pub TellsContent : History → ℕ → Inspection → Reply → Type 0
TellsContent past now inspection answer =
    (content : Content) × IsContent content past × (answer ≡ inspection_reply content now inspection)

-- the reply to a command, after this past, reports what it did; for ranges, groups, DEL, PING and QUIT nothing beyond
-- the model's reply is required
abbrev pub IsReported : History → ℕ → Command → Reply → Type 0
IsReported past now (Add add) answer =
    TellsAddition (added_at past add.key) add.fields answer (added_at ((now, Add add) ∷ past) add.key)
IsReported past now (Delete key ids) answer = TellsFewer (present_count key) past (now, Delete key ids) answer
IsReported past now (TrimTo key trim) answer = TellsFewer (present_count key) past (now, TrimTo key trim) answer
IsReported past now (Len key) answer = answer ≡ Int (present_count key past)
IsReported past now (ReadGroup read) answer =
    IfThere (has_all_groups (group_life past) (ReadGroup read)) answer
    ((told : List Reply) × (answer ≡ array_or_null told) × TellsReads past read read.reads told)
IsReported past now (Ack key group ids) answer = TellsFewer (pending_count key group) past (now, Ack key group ids) answer
IsReported past now (Pending key group) answer =
    IfThere (is_some (group_life past key group)) answer
    ((rest : List Reply) × (answer ≡ array (Int (pending_count key group past) ∷ rest)))
IsReported past now (PendingRows asked) answer =
    IfThere (is_some (group_life past asked.key asked.group)) answer
    ((life : GroupLife) → group_life past asked.key asked.group ≡ Some life → TellsRows asked now life answer)
IsReported past now (Claim c) answer =
    let found = scan_at past now c.key c.group (claim c.consumer c.rule c.ids) in
    IfThere (is_some (group_life past c.key c.group)) answer
    ((told : List Reply) × (answer ≡ array told)
    × TellsTaken c.rule.just_id (added_at past c.key) found.claim.take told
    × IsAssigned c.consumer found.claim (group_life past c.key c.group)
    (group_life ((now, Claim c) ∷ past) c.key c.group))
IsReported past now (AutoClaim c) answer =
    let found = scan_at past now c.key c.group (auto_claim c.consumer c.rule c.start c.limit) in
    IfThere (is_some (group_life past c.key c.group)) answer
    ((told : List Reply)
    × (answer ≡ array (id_reply found.cursor ∷ array told ∷ array (map id_reply found.claim.removed) ∷ []))
    × TellsTaken c.rule.just_id (added_at past c.key) found.claim.take told
    × IsAssigned c.consumer found.claim (group_life past c.key c.group)
    (group_life ((now, AutoClaim c) ∷ past) c.key c.group))
IsReported past now (Inspect inspection) answer = TellsContent past now inspection answer
IsReported past now _ answer = Unit {0}
