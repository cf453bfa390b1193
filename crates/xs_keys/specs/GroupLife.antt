-- The lives of groups, and what an event delivers in a group, over the whole history.
use Rattle.std.specs.Prelude.{◌≡◌, ℕ, Bool, true, false, ◌&&◌, List, [], ◌∷◌, ◌++◌, Option, Some, None, is_some}
use Rattle.std.specs.Prelude.{if◌then◌else◌}
use Rattle.xs_keys.specs.Terms.{option_map, option_map_or, option_or, list_all, list_any, Id, ids_of, is_same_name}
use Rattle.xs_keys.specs.Terms.{new_ids, Command, GroupCreate, GroupDestroy, ConsumerCreate, ConsumerDelete}
use Rattle.xs_keys.specs.Terms.{ReadGroup, Ack, Claim, AutoClaim, DropKeys, GroupStart, Top, At, GroupCreateCommand}
use Rattle.xs_keys.specs.Terms.{ReadGroupCommand, ReadOne, ReadFrom, New, After}
use Rattle.xs_keys.specs.Life.{KeyLife, is_listed, life_or_new, key_life, present_entries, top}
use Rattle.xs_keys.specs.GroupAsk.{GroupAsk, read_new, read_own, acknowledge, create_consumer, delete_consumer, claim}
use Rattle.xs_keys.specs.GroupAsk.{auto_claim}
use Rattle.xs_keys.specs.GroupEvent.{GroupEvent}
use Rattle.xs_keys.specs.GroupEvent.{delivered_ids, cursor}
use Rattle.xs_keys.specs.Event.{Bytes, History, event_moment, event_command, is_same_group}

-- a life of a group: the id that it starts at, and its events, newest first; ids above the start are the group's
pub record GroupLife : Type 0 where
  pub start : Id
  pub events : List GroupEvent

-- the ids in the stream
abbrev pub present_in : Option KeyLife → List Id
present_in stream = option_map_or (λ key. ids_of (present_entries key)) stream []

-- where a group starts: at the written id, or at the top
abbrev pub starting_id : GroupStart → Id → Id
starting_id Top top = top
starting_id (At id) top = id

-- a new life; none if the key is missing and isn't created
abbrev pub new_life : GroupCreateCommand → Option KeyLife → Option GroupLife
new_life create stream =
    let begin : Id → GroupLife = λ id. record { start = starting_id create.start id; events = [] } in
    option_map (λ key. begin (top key)) (life_or_new create.make stream)

-- one event more
abbrev pub life_after_ask : ℕ → List Id → GroupAsk → Option GroupLife → Option GroupLife
life_after_ask now present ask life =
    let event : GroupEvent = record { now = now; present = present; ask = ask } in
    option_map (λ l. record { start = l.start; events = event ∷ l.events }) life

-- what a read asks of one stream
abbrev pub ask_of_read : ReadGroupCommand → ReadFrom → GroupAsk
ask_of_read read New = read_new read.consumer read.limit read.noack
ask_of_read read (After id) = read_own read.consumer read.limit id

-- the reads of this key, in their order
abbrev pub life_after_reads :
    ℕ → List Id → ReadGroupCommand → Bytes → List ReadOne → Option GroupLife → Option GroupLife
life_after_reads now present read key [] life = life
life_after_reads now present read key (one ∷ more) life =
    let next = if is_same_name key one.key then life_after_ask now present (ask_of_read read one.from) life else life in
    life_after_reads now present read key more next

-- the life of a group after a command at a moment, from the lives of its key and its own before, and from whether all
-- groups that a read names exist; XGROUP CREATE leaves an open life unchanged
abbrev pub group_life_after :
    ℕ → Command → Bytes → Bytes → Bool → Option KeyLife → Option GroupLife → Option GroupLife
group_life_after now (GroupCreate create) key group all_there stream life =
    if is_same_group key group create.key create.group then option_or life (new_life create stream) else life
group_life_after now (GroupDestroy k g) key group all_there stream life =
    if is_same_group key group k g then None else life
group_life_after now (ConsumerCreate k g consumer) key group all_there stream life =
    if is_same_group key group k g then life_after_ask now (present_in stream) (create_consumer consumer) life else life
group_life_after now (ConsumerDelete k g consumer) key group all_there stream life =
    if is_same_group key group k g then life_after_ask now (present_in stream) (delete_consumer consumer) life else life
group_life_after now (ReadGroup read) key group all_there stream life =
    if is_same_name group read.group && all_there
    then life_after_reads now (present_in stream) read key read.reads life
    else life
group_life_after now (Ack k g ids) key group all_there stream life =
    if is_same_group key group k g then life_after_ask now (present_in stream) (acknowledge ids) life else life
group_life_after now (Claim c) key group all_there stream life =
    if is_same_group key group c.key c.group
    then life_after_ask now (present_in stream) (claim c.consumer c.rule c.ids) life else life
group_life_after now (AutoClaim c) key group all_there stream life =
    if is_same_group key group c.key c.group
    then life_after_ask now (present_in stream) (auto_claim c.consumer c.rule c.start c.limit) life else life
group_life_after now (DropKeys keys) key group all_there stream life = if is_listed keys key then None else life
group_life_after now _ key group all_there stream life = life

-- what a command reads of groups: each key, and from where on; other commands read none
abbrev pub reads_of : Command → List ReadOne
reads_of (ReadGroup read) = read.reads
reads_of _ = []

abbrev pub read_group_of : Command → Bytes
read_group_of (ReadGroup read) = read.group
read_group_of _ = []

-- each key and group that a command reads exists, by the open lives of groups; if one is missing the whole read is
-- refused
abbrev pub has_all_groups : (Bytes → Bytes → Option GroupLife) → Command → Bool
has_all_groups lives command =
    list_all (λ one. is_some (lives one.key (read_group_of command))) (reads_of command)

-- the open life of a group of a key, looking back over all events
abbrev pub group_life : History → Bytes → Bytes → Option GroupLife
group_life [] key group = None
group_life (e ∷ past) key group =
    let command = event_command e in
    let all_there = has_all_groups (λ k g. group_life past k g) command in
    group_life_after (event_moment e) command key group all_there (key_life past key) (group_life past key group)

abbrev pub is_new : ReadFrom → Bool
is_new New = true
is_new (After id) = false

-- the command asks for new entries of the key
abbrev pub reads_new_entries : Command → Bytes → Bool
reads_new_entries command key = list_any (λ one. is_same_name key one.key && is_new one.from) (reads_of command)

abbrev pub read_limit_of : Command → Option ℕ
read_limit_of (ReadGroup read) = read.limit
read_limit_of _ = None

-- what a command delivers in a group, after this past: the first of the ids in the stream that are above the cursor
abbrev pub ids_delivered_by : History → Command → Bytes → Bytes → List Id
ids_delivered_by past command key group =
    let present = present_in (key_life past key) in
    let new : GroupLife → List Id = λ life. new_ids (read_limit_of command) (cursor life.start life.events) present in
    let reads = reads_new_entries command key && (is_same_name group (read_group_of command)
    && has_all_groups (group_life past) command) in
    if reads then option_map_or new (group_life past key group) [] else []

-- the life of a group before and after an event that delivers these new ids: it continues, with only these ids more; or
-- it begins, and nothing is delivered; or none is open after the event, and nothing is delivered
abbrev pub LifeContinues : Option GroupLife → List Id → Option GroupLife → Type 0
LifeContinues (Some before) new (Some life) =
    (life.start ≡ before.start)
    × (delivered_ids life.start life.events ≡ delivered_ids before.start before.events ++ new)
LifeContinues None new (Some life) = (life.events ≡ []) × (new ≡ [])
LifeContinues before new None = new ≡ []
