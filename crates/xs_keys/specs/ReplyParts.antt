-- The parts of replies. (The pages of the commands, "RESP2 Reply".)
use Rattle.std.specs.Prelude.{Bool, List, [], ◌∷◌, map, decimal, Option, Result, Ok, Err, if◌then◌else◌}
use Rattle.xs_keys.specs.Terms.{flat_map, option_map_or, Id, Field, AddError, id_text, fields_at, Fault, SmallId}
use Rattle.xs_keys.specs.Terms.{Exhausted, Memory, NoKey, NoGroup, Reply, Error, Int, Bulk, NullBulk, Array, NullArray}
use Rattle.xs_keys.specs.Terms.{items_of, OwnerCount, GroupSummary, PendingRow, GroupState}
use Rattle.xs_stream.specs.declared.add.AddError.TheVariants as add_error
use Rattle.xs_group.specs.declared.claims.Scan as scans
use Rattle.xs_keys.specs.Content.{KeyState}
use Rattle.xs_keys.specs.Event.{Bytes, Entries}

-- an array of these replies
abbrev pub array : List Reply → Reply
array replies = Array (items_of replies)

abbrev pub array_or_null : List Reply → Reply
array_or_null [] = NullArray
array_or_null (r ∷ rs) = array (r ∷ rs)

abbrev pub id_reply : Id → Reply
id_reply id = Bulk (id_text id)

-- the name of a field, and then its value
abbrev pub field_replies : Field → List Reply
field_replies field = Bulk field.name ∷ Bulk field.value ∷ []

-- an entry: its id and its fields; one that is no longer in the stream has the null array
abbrev pub entry_reply : Entries → Id → Reply
entry_reply entries id =
    let fields = option_map_or (λ fs. array (flat_map field_replies fs)) (fields_at entries id) NullArray in
    array (id_reply id ∷ fields ∷ [])

-- the same for an entry that is in the stream
abbrev pub present_reply : Id × List Field → Reply
present_reply entry = array (id_reply entry.0 ∷ array (flat_map field_replies entry.1) ∷ [])

abbrev pub entries_reply : Entries → List Id → Reply
entries_reply entries ids = array (map (entry_reply entries) ids)

-- the error of a refused addition
abbrev pub fault_of_addition : AddError → Fault
fault_of_addition add_error.Small = SmallId
fault_of_addition add_error.Exhausted = Exhausted
fault_of_addition add_error.Memory = Memory

-- XADD: the id, or the error
abbrev pub assigned_reply : Result Id AddError → Reply
assigned_reply (Ok id) = id_reply id
assigned_reply (Err refusal) = Error (fault_of_addition refusal)

-- the reply for a group; a missing one is an error
abbrev pub reply_of_group : Option GroupState → (GroupState → Reply) → Reply
reply_of_group group said = option_map_or said group (Error NoGroup)

-- XGROUP: the reply for a key; a missing one is an error
abbrev pub reply_of_key : Option KeyState → (KeyState → Reply) → Reply
reply_of_key key said = option_map_or said key (Error NoKey)

-- a stream in the reply to a read: its key and its entries
abbrev pub stream_part : Bytes → Entries → List Id → Reply
stream_part key entries ids = array (Bulk key ∷ entries_reply entries ids ∷ [])

-- a stream with nothing new is left out
abbrev pub new_part : Bytes → Entries → List Id → List Reply
new_part key entries [] = []
new_part key entries (x ∷ xs) = stream_part key entries (x ∷ xs) ∷ []

-- XPENDING, the short form: a consumer with the number of its pending entries
abbrev pub owner_reply : OwnerCount → Reply
owner_reply owner = array (Bulk owner.consumer ∷ Bulk (decimal owner.count) ∷ [])

-- XPENDING, the short form
abbrev pub summary_reply : GroupSummary → Reply
summary_reply summary =
    let id : Option Id → Reply = λ x. option_map_or id_reply x NullBulk in
    let owners = array_or_null (map owner_reply summary.owners) in
    array (Int summary.total ∷ id summary.least ∷ id summary.greatest ∷ owners ∷ [])

-- XPENDING, a row of the long form
abbrev pub row_reply : PendingRow → Reply
row_reply row = array (id_reply row.id ∷ Bulk row.consumer ∷ Int row.idle ∷ Int row.count ∷ [])

-- XCLAIM and XAUTOCLAIM: an entry that a claim took, or only its id
abbrev pub taken_item : Bool → Entries → Id → Reply
taken_item just_id entries id = if just_id then id_reply id else entry_reply entries id

abbrev pub taken_reply : Bool → Entries → List Id → Reply
taken_reply just_id entries ids = array (map (taken_item just_id entries) ids)

-- XAUTOCLAIM: where to go on, what was taken, and the ids that were removed
abbrev pub scan_reply : Bool → Entries → scans.Scan → Reply
scan_reply just_id entries s =
    array (id_reply s.cursor ∷ taken_reply just_id entries s.claim.take ∷ array (map id_reply s.claim.removed) ∷ [])
