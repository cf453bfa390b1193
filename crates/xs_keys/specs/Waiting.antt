-- Which commands may wait: reads of groups with BLOCK, while their reply would be the null array. (XREADGROUP; XREAD,
-- "Blocking for data".)
use Rattle.std.specs.Prelude.{◌≡◌, ◌≢◌, ℕ, ◌==◌, Bool, false, ◌&&◌, length, Option, None}
use Rattle.xs_keys.specs.Terms.{list_all, option_map_or, get, ids_of, new_ids, has_name, GroupState, Command, ReadGroup}
use Rattle.xs_keys.specs.Terms.{ReadGroupCommand, ReadOne, NullArray}
use Rattle.xs_keys.specs.GroupLife.{is_new}
use Rattle.xs_keys.specs.Content.{Content, KeyState}
use Rattle.xs_keys.specs.ContentAfter.{group_in, entries_in, content_after}
use Rattle.xs_keys.specs.Reply.{reply}

-- how many milliseconds a command may wait for new entries; 0 is without limit; without BLOCK it doesn't wait
abbrev pub block_of : Command → Option ℕ
block_of (ReadGroup read) = read.block
block_of _ = None

-- one key is read from `>`, the group exists, and nothing is new to it
abbrev pub finds_none_in : ReadGroupCommand → ReadOne → Option KeyState → Bool
finds_none_in read one key =
    let has_none : GroupState → Bool = λ g. length (new_ids read.limit g.cursor (ids_of (entries_in key))) == 0 in
    is_new one.from && option_map_or has_none (group_in key read.group) false

-- the same for each key that is read
abbrev pub finds_nothing : Content → ReadGroupCommand → Bool
finds_nothing content read = list_all (λ one. finds_none_in read one (get content one.key)) read.reads

-- the group of one key knows the consumer that reads
abbrev pub knows_reader_in : ReadGroupCommand → Option KeyState → Bool
knows_reader_in read key = option_map_or (λ g. has_name g.consumers read.consumer) (group_in key read.group) false

-- a read finds nothing, for a consumer that each group knows
abbrev pub reads_in_vain : Content → ReadGroupCommand → Bool
reads_in_vain content read =
    finds_nothing content read && list_all (λ one. knows_reader_in read (get content one.key)) read.reads

-- it changes nothing, at any moment
abbrev pub ChangesNothing : Content → Command → Type 0
ChangesNothing content command = (now : ℕ) → content_after content now command ≡ content

-- the reply would be the null array, at any moment
abbrev pub IsAnsweredNull : Content → Command → Type 0
IsAnsweredNull content command = (now : ℕ) → reply content now command ≡ NullArray

-- it would be another reply, at any moment
abbrev pub IsAnsweredOtherwise : Content → Command → Type 0
IsAnsweredOtherwise content command = (now : ℕ) → reply content now command ≢ NullArray
