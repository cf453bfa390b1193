-- The types in which the model is written: events and histories, and the contents of keys and groups.
use Rattle.std.specs.Prelude.{ℕ, Bool, List, ◌&&◌}
use Rattle.xs_stream.specs.declared.id.Id.{Id}
use Rattle.xs_stream.specs.declared.field.Field.{Field}
use Rattle.xs_group.specs.GroupState.{RowState, is_same_name}
use Rattle.xs_command.specs.declared.command.Command.{Command}

-- a byte string: the name of a key, a group or a consumer
abbrev pub Bytes : Type 0
Bytes = List ℕ

-- a command at a moment, in milliseconds
abbrev pub Event : Type 0
Event = ℕ × Command

abbrev pub event_moment : Event → ℕ
event_moment event = event.0

abbrev pub event_command : Event → Command
event_command event = event.1

-- what has happened so far: the events, the newest first
abbrev pub History : Type 0
History = List Event

-- entries of a stream, in the order of their ids
abbrev pub Entries : Type 0
Entries = List (Id × List Field)

-- the pending entries list of a group: rows by id, in the order of the ids
abbrev pub PendingEntries : Type 0
PendingEntries = List (Id × RowState)

-- the same group of the same key
abbrev pub is_same_group : Bytes → Bytes → Bytes → Bytes → Bool
is_same_group key group other_key other_group = is_same_name key other_key && is_same_name group other_group
