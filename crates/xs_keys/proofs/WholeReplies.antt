-- The replies to commands are complete: the header of no array gives more or fewer items than the array has.
use Rattle.std.proofs.Common.{◌≡◌, ◌∙◌, ap, append_assoc, ℕ, ◌-◌, codes, decimal, Bool, true, false, if◌then◌else◌, List, [], ◌∷◌}
use Rattle.std.proofs.Common.{◌++◌, length, map, Option, Some, None}
use Rattle.xs_stream.specs.StreamContent.{StreamState}
use Rattle.xs_resp.specs.WholeReplies.{IsWholeReply, AreWhole}
use Rattle.xs_resp.specs.ReplyItems.{tokens_of}
use Rattle.xs_resp.specs.Token as token
use Rattle.xs_resp.proofs.Wholeness.{items-whole, all-whole, grown, whole-append}
use Rattle.xs_keys.specs.Terms.{GroupState, option_map_or, get, ConsumerReport, OwnerCount, GroupSummary, PendingRow, ReadGroupCommand}
use Rattle.xs_keys.specs.Terms.{ReadOne, ReadFrom, New, After, new_ids, Bulk, Int, NullBulk, NullArray, flat_map, Id}
use Rattle.xs_keys.specs.Terms.{Field, Reply, fields_at, ids_of}
use Rattle.xs_keys.specs.GroupLife.{ask_of_read}
use Rattle.xs_keys.specs.Content.{Content}
use Rattle.xs_keys.specs.ContentAfter.{after_ask, group_in, entries_in}
use Rattle.xs_keys.specs.ReplyParts.{array, array_or_null, id_reply, field_replies, entry_reply, present_reply}
use Rattle.xs_keys.specs.ReplyParts.{entries_reply, stream_part, new_part, owner_reply, row_reply, taken_item, taken_reply}
use Rattle.xs_keys.specs.Inspecting.{number_reply, lag_of, tells_no_number, read_reply, members_part, progress_part, group_reply}
use Rattle.xs_keys.specs.Inspecting.{consumer_reply, end_reply, size_part, past_part, ends_part}
use Rattle.xs_keys.specs.Reply.{parts_of_read, parts}

fields-whole : (fields : List Field) → AreWhole (flat_map field_replies fields)
fields-whole [] = tt
fields-whole (f ∷ fs) = (tt, (tt, fields-whole fs))

pub present-whole : (entry : Id × List Field) → IsWholeReply (present_reply entry)
present-whole entry =
    items-whole (id_reply entry.0 ∷ array (flat_map field_replies entry.1) ∷ []) (tt, (items-whole (flat_map field_replies entry.1) (fields-whole entry.1), tt))

pub entry-whole : (entries : List (Id × List Field)) (id : Id) → IsWholeReply (entry_reply entries id)
entry-whole entries id = by (fields_at entries id) where
  by : (found : Option (List Field)) → IsWholeReply (array (id_reply id ∷ option_map_or (λ fs. array (flat_map field_replies fs)) found NullArray ∷ []))
  by None = items-whole (id_reply id ∷ NullArray ∷ []) (tt, (tt, tt))
  by (Some fields) =
      items-whole (id_reply id ∷ array (flat_map field_replies fields) ∷ []) (tt, (items-whole (flat_map field_replies fields) (fields-whole fields), tt))

pub entries-whole : (entries : List (Id × List Field)) (ids : List Id) → IsWholeReply (entries_reply entries ids)
entries-whole entries ids = items-whole (map (entry_reply entries) ids) (all-whole (entry_reply entries) (entry-whole entries) ids)

pub id-whole : (id : Id) → IsWholeReply (id_reply id)
id-whole id = tt

pub ids-whole : (ids : List Id) → IsWholeReply (array (map id_reply ids))
ids-whole ids = items-whole (map id_reply ids) (all-whole id_reply id-whole ids)

pub item-whole : (just_id : Bool) (entries : List (Id × List Field)) (id : Id) → IsWholeReply (taken_item just_id entries id)
item-whole true entries id = id-whole id
item-whole false entries id = entry-whole entries id

pub taken-whole : (just_id : Bool) (entries : List (Id × List Field)) (ids : List Id) → IsWholeReply (taken_reply just_id entries ids)
taken-whole just_id entries ids = items-whole (map (taken_item just_id entries) ids) (all-whole (taken_item just_id entries) (item-whole just_id entries) ids)

-- an array more, whose header is appended before its items
pub grown-array : (rs items : List Reply) (count : ℕ) (old headed new : List token.Token) → old ≡ flat_map tokens_of rs → headed ≡ old ++ token.Array count ∷ [] → count ≡ length items
    → new ≡ headed ++ flat_map tokens_of items → new ≡ flat_map tokens_of (rs ++ array items ∷ [])
grown-array rs items count old headed new is header counted more =
    grown rs (array items) old new is
    (more ∙ ap (λ (ts : List token.Token). ts ++ flat_map tokens_of items) (header ∙ ap (λ n. old ++ token.Array n ∷ []) counted)
    ∙ append_assoc old (token.Array (length items) ∷ []) (flat_map tokens_of items))

part-whole : (key : List ℕ) (entries : List (Id × List Field)) (ids : List Id) → IsWholeReply (stream_part key entries ids)
part-whole key entries ids = items-whole (Bulk key ∷ entries_reply entries ids ∷ []) (tt, (entries-whole entries ids, tt))

shown-whole : (read : ReadGroupCommand) (key : List ℕ) (from : ReadFrom) (entries : List (Id × List Field)) (group : Option GroupState)
    → AreWhole (option_map_or (parts_of_read read key from entries) group [])
shown-whole read key from entries None = tt
shown-whole read key (After id) entries (Some group) = (part-whole key entries _, tt)
shown-whole read key New entries (Some group) = by (new_ids read.limit group.cursor (ids_of entries)) where
  by : (ids : List Id) → AreWhole (new_part key entries ids)
  by [] = tt
  by (x ∷ xs) = (part-whole key entries (x ∷ xs), tt)

pub parts-whole : (content : Content) (now : ℕ) (read : ReadGroupCommand) (reads : List ReadOne) → AreWhole (parts content now read reads)
parts-whole content now read [] = tt
parts-whole content now read (one ∷ more) =
    let this = option_map_or (parts_of_read read one.key one.from (entries_in (get content one.key))) (group_in (get content one.key) read.group) [] in
    let after = after_ask content now one.key read.group (ask_of_read read one.from) in
    whole-append this (parts after now read more) (shown-whole read one.key one.from (entries_in (get content one.key)) (group_in (get content one.key) read.group)) (parts-whole after now read more)

owner-whole : (owner : OwnerCount) → IsWholeReply (owner_reply owner)
owner-whole owner = items-whole (Bulk owner.consumer ∷ Bulk (decimal owner.count) ∷ []) (tt, (tt, tt))

owners-whole : (owners : List OwnerCount) → IsWholeReply (array_or_null (map owner_reply owners))
owners-whole [] = tt
owners-whole (o ∷ os) = items-whole (map owner_reply (o ∷ os)) (all-whole owner_reply owner-whole (o ∷ os))

pub row-whole : (row : PendingRow) → IsWholeReply (row_reply row)
row-whole row = items-whole (id_reply row.id ∷ Bulk row.consumer ∷ Int row.idle ∷ Int row.count ∷ []) (tt, (tt, (tt, (tt, tt))))

-- the four items of the short form of XPENDING
module _ (summary : GroupSummary) where
  id-or-null : (id : Option Id) → IsWholeReply (option_map_or id_reply id NullBulk)
  id-or-null None = tt
  id-or-null (Some id) = tt

  pub summary-whole : (owners : List OwnerCount)
      → AreWhole (Int summary.total ∷ option_map_or id_reply summary.least NullBulk ∷ option_map_or id_reply summary.greatest NullBulk ∷ array_or_null (map owner_reply owners) ∷ [])
  summary-whole owners = (tt, (id-or-null summary.least, (id-or-null summary.greatest, (owners-whole owners, tt))))

-- XINFO GROUPS
pub read-whole : (stream : StreamState) (cursor : Id) → IsWholeReply (read_reply stream cursor)
read-whole stream cursor = by (tells_no_number stream cursor) where
  by : (untold : Bool) → IsWholeReply (if untold then NullBulk else number_reply (stream.added - lag_of stream cursor))
  by true = tt
  by false = tt

pub group-whole : (stream : StreamState) (group : List ℕ × GroupState) → IsWholeReply (group_reply stream group)
group-whole stream group =
    items-whole (members_part group ++ progress_part stream group.1.cursor)
    (tt, (tt, (tt, (tt, (tt, (tt, (tt, (tt, (tt, (read-whole stream group.1.cursor, (tt, (tt, tt))))))))))))

-- XINFO CONSUMERS
pub consumer-whole : (consumer : ConsumerReport) → IsWholeReply (consumer_reply consumer)
consumer-whole consumer =
    items-whole (Bulk (codes "name") ∷ Bulk consumer.consumer ∷ Bulk (codes "pending") ∷ Int consumer.pending ∷ Bulk (codes "idle") ∷ Int consumer.idle ∷ [])
    (tt, (tt, (tt, (tt, (tt, (tt, tt))))))

end-whole : (entries : List (Id × List Field)) → IsWholeReply (end_reply entries)
end-whole [] = tt
end-whole (e ∷ es) = present-whole e

-- XINFO STREAM
pub stream-whole : (entries : List (Id × List Field)) (stream : StreamState) (id : Id) (groups : ℕ) (first last : List (Id × List Field))
    → AreWhole (size_part entries ++ (past_part stream id ++ ends_part groups first last))
stream-whole entries stream id groups first last =
    (tt, (tt, (tt, (tt, (tt, (tt, (tt, (tt, (tt, (tt, (tt, (tt, (tt, (tt, (tt, (tt, (tt, (end-whole first, (tt, (end-whole last, tt))))))))))))))))))))
