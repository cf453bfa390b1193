-- The effect of a command on an entry, by its words, and for trims by the ids in the stream. (Redis, XADD, XDEL, XTRIM,
-- XGROUP, XREADGROUP, XACK, XCLAIM, XAUTOCLAIM and DEL.)
use Rattle.std.specs.Prelude.{◌+◌, Bool, false, ◌&&◌, ◌||◌, List, nat_le, Option, Some, None}
use Rattle.xs_stream.specs.StreamContent.{count_above}
use Rattle.xs_stream.specs.declared.trim.Trim.TheVariants.{MaxLen, MinId}
use Rattle.xs_keys.specs.Terms.{option_map_or, Id, Trim, is_below, has_id, is_trimmed, is_same_name, Command, Add}
use Rattle.xs_keys.specs.Terms.{Delete}
use Rattle.xs_keys.specs.Terms.{TrimTo, GroupCreate, GroupDestroy, ConsumerDelete, ReadGroup, Ack, Claim, AutoClaim}
use Rattle.xs_keys.specs.Terms.{DropKeys}
use Rattle.xs_keys.specs.Life.{is_listed}
use Rattle.xs_keys.specs.GroupLife.{read_group_of, reads_new_entries}
use Rattle.xs_keys.specs.Event.{Bytes, is_same_group}

-- the command deletes the entry
abbrev pub deletes_entry : Command → Bytes → Id → Bool
deletes_entry (Delete k ids) key x = is_same_name key k && has_id ids x
deletes_entry _ key x = false

-- the trim drops the entry once one more id is added above all of these
abbrev pub is_trimmed_after_addition : Trim → List Id → Id → Bool
is_trimmed_after_addition (MaxLen n) present x = nat_le n (count_above x present + 1)
is_trimmed_after_addition (MinId low) present x = is_below x low

-- the command may trim the entry away, by itself or with an addition, which may be refused and then trims nothing
abbrev pub may_trim_entry : Command → Bytes → List Id → Id → Bool
may_trim_entry (Add add) key present x =
    is_same_name key add.key && option_map_or (λ trim. is_trimmed_after_addition trim present x) add.trim false
may_trim_entry (TrimTo k trim) key present x = is_same_name key k && is_trimmed trim present x
may_trim_entry _ key present x = false

-- the command reads new entries of the key in the group
abbrev pub reads_new_entries_in : Command → Bytes → Bytes → Bool
reads_new_entries_in command key group = is_same_name group (read_group_of command) && reads_new_entries command key

abbrev pub has_noack : Command → Bool
has_noack (ReadGroup read) = read.noack
has_noack _ = false

-- the command claims the entry in the group by its id
abbrev pub claims_by_id : Command → Bytes → Bytes → Id → Bool
claims_by_id (Claim c) key group x = is_same_group key group c.key c.group && has_id c.ids x
claims_by_id _ key group x = false

-- the command scans the group for entries to claim
abbrev pub scans_group : Command → Bytes → Bytes → Bool
scans_group (AutoClaim c) key group = is_same_group key group c.key c.group
scans_group _ key group = false

-- the command may claim the entry in the group, if that is pending and idle for long enough
abbrev pub may_claim_entry : Command → Bytes → Bytes → Id → Bool
may_claim_entry command key group x = scans_group command key group || claims_by_id command key group x

-- the consumer that reads or claims
abbrev pub reader_or_claimer : Command → Option Bytes
reader_or_claimer (ReadGroup read) = Some read.consumer
reader_or_claimer (Claim c) = Some c.consumer
reader_or_claimer (AutoClaim c) = Some c.consumer
reader_or_claimer _ = None

-- the command acknowledges the entry in the group
abbrev pub acknowledges_entry : Command → Bytes → Bytes → Id → Bool
acknowledges_entry (Ack k g ids) key group x = is_same_group key group k g && has_id ids x
acknowledges_entry _ key group x = false

-- the command deletes the consumer of the group
abbrev pub removes_consumer : Command → Bytes → Bytes → Bytes → Bool
removes_consumer (ConsumerDelete k g consumer) key group name =
    is_same_group key group k g && is_same_name name consumer
removes_consumer _ key group name = false

-- the command may add an entry to the stream, or create the group
abbrev pub may_begin_job : Command → Bytes → Bytes → Bool
may_begin_job (Add add) key group = is_same_name key add.key
may_begin_job (GroupCreate create) key group = is_same_group key group create.key create.group
may_begin_job _ key group = false

-- the command ends the life of the group
abbrev pub ends_group : Command → Bytes → Bytes → Bool
ends_group (GroupDestroy k g) key group = is_same_group key group k g
ends_group (DropKeys keys) key group = is_listed keys key
ends_group _ key group = false
