-- What is true of the lives of a history: the ids in the stream ascend at each event.
use Rattle.std.proofs.Common.{◌≡◌, ℕ, Bool, true, false, cond, ◌&&◌, List, [], ◌∷◌, Option, Some, None, is_some, subst}
use Rattle.std.proofs.Common.{refl}
use Rattle.xs_keys.specs.Event.{History}
use Rattle.xs_keys.specs.Terms.{list_all, Id, Ascends, is_same_name, Command, Ping, Quit, Add, Delete, TrimTo, Len}
use Rattle.xs_keys.specs.Terms.{Scan, GroupCreate, GroupDestroy, ConsumerCreate, ConsumerDelete, ReadGroup, Ack}
use Rattle.xs_keys.specs.Terms.{Pending, PendingRows, Claim, AutoClaim, DropKeys, Inspect, GroupCreateCommand, ReadGroupCommand}
use Rattle.xs_keys.specs.Terms.{ReadOne, option_or}
use Rattle.xs_keys.specs.Life.{StreamEvent, is_listed, key_life}
use Rattle.xs_keys.specs.GroupAsk.{GroupAsk, create_consumer, delete_consumer, acknowledge, claim, auto_claim}
use Rattle.xs_keys.specs.GroupLife.{GroupLife, present_in, new_life, life_after_ask, ask_of_read, life_after_reads}
use Rattle.xs_keys.specs.GroupLife.{group_life_after, reads_of, read_group_of, group_life}
use Rattle.xs_keys.proofs.Streams.{ascends-present}
use Rattle.xs_keys.proofs.Deliveries.{PresentAscends}

-- a life at whose events the ids ascend, or no life
abbrev pub MeetsAscending : Option GroupLife → Type 0
MeetsAscending None = Unit {0}
MeetsAscending (Some life) = PresentAscends life.events

present-ascends : (stream : Option (List StreamEvent)) → Ascends (present_in stream)
present-ascends None = tt
present-ascends (Some changes) = ascends-present changes

meets-asked : (now : ℕ) (present : List Id) (ask : GroupAsk) (life : Option GroupLife) → Ascends present → MeetsAscending life → MeetsAscending (life_after_ask now present ask life)
meets-asked now present ask None asc h = tt
meets-asked now present ask (Some life) asc h = (asc, h)

meets-read : (now : ℕ) (present : List Id) (read : ReadGroupCommand) (key : List ℕ) (reads : List ReadOne) (life : Option GroupLife) → Ascends present → MeetsAscending life
    → MeetsAscending (life_after_reads now present read key reads life)
meets-read now present read key [] life asc h = h
meets-read now present read key (one ∷ more) life asc h =
    meets-read now present read key more (cond (is_same_name key one.key) (life_after_ask now present (ask_of_read read one.from) life) life) asc (by (is_same_name key one.key))
  where
    by : (t : Bool) → MeetsAscending (cond t (life_after_ask now present (ask_of_read read one.from) life) life)
    by true = meets-asked now present (ask_of_read read one.from) life asc h
    by false = h

meets-opened : (make : Bool) (create : GroupCreateCommand) → create.make ≡ make → (stream : Option (List StreamEvent)) → MeetsAscending (new_life create stream)
meets-opened make create m (Some changes) = tt
meets-opened true create m None = rw m tt
meets-opened false create m None = rw m tt

meets-created : (create : GroupCreateCommand) (stream : Option (List StreamEvent)) (life : Option GroupLife) → MeetsAscending life → MeetsAscending (option_or life (new_life create stream))
meets-created create stream None h = meets-opened create.make create refl stream
meets-created create stream (Some life) h = h

either : (t : Bool) (one other : Option GroupLife) → MeetsAscending one → MeetsAscending other → MeetsAscending (cond t one other)
either true one other h k = h
either false one other h k = k

meets-lived : (now : ℕ) (command : Command) (key group : List ℕ) (served : Bool) (stream : Option (List StreamEvent)) (life : Option GroupLife) → MeetsAscending life
    → MeetsAscending (group_life_after now command key group served stream life)
meets-lived now (GroupCreate create) key group served stream life h = either (is_same_name key create.key && is_same_name group create.group) (option_or life (new_life create stream)) life (meets-created create stream life h) h
meets-lived now (GroupDestroy k g) key group served stream life h = either (is_same_name key k && is_same_name group g) None life tt h
meets-lived now (ConsumerCreate k g consumer) key group served stream life h =
    either (is_same_name key k && is_same_name group g) (life_after_ask now (present_in stream) (create_consumer consumer) life) life (meets-asked now (present_in stream) (create_consumer consumer) life (present-ascends stream) h) h
meets-lived now (ConsumerDelete k g consumer) key group served stream life h =
    either (is_same_name key k && is_same_name group g) (life_after_ask now (present_in stream) (delete_consumer consumer) life) life (meets-asked now (present_in stream) (delete_consumer consumer) life (present-ascends stream) h) h
meets-lived now (ReadGroup read) key group served stream life h =
    either (is_same_name group read.group && served) (life_after_reads now (present_in stream) read key read.reads life) life (meets-read now (present_in stream) read key read.reads life (present-ascends stream) h) h
meets-lived now (Ack k g ids) key group served stream life h =
    either (is_same_name key k && is_same_name group g) (life_after_ask now (present_in stream) (acknowledge ids) life) life (meets-asked now (present_in stream) (acknowledge ids) life (present-ascends stream) h) h
meets-lived now (Claim c) key group served stream life h =
    either (is_same_name key c.key && is_same_name group c.group) (life_after_ask now (present_in stream) (claim c.consumer c.rule c.ids) life) life
    (meets-asked now (present_in stream) (claim c.consumer c.rule c.ids) life (present-ascends stream) h) h
meets-lived now (AutoClaim c) key group served stream life h =
    either (is_same_name key c.key && is_same_name group c.group) (life_after_ask now (present_in stream) (auto_claim c.consumer c.rule c.start c.limit) life) life
    (meets-asked now (present_in stream) (auto_claim c.consumer c.rule c.start c.limit) life (present-ascends stream) h) h
meets-lived now (DropKeys keys) key group served stream life h = either (is_listed keys key) None life tt h
meets-lived now (Ping message) key group served stream life h = h
meets-lived now Quit key group served stream life h = h
meets-lived now (Add add) key group served stream life h = h
meets-lived now (Delete name ids) key group served stream life h = h
meets-lived now (TrimTo name trim) key group served stream life h = h
meets-lived now (Len name) key group served stream life h = h
meets-lived now (Inspect inspection) key group served stream life h = h
meets-lived now (Scan scan) key group served stream life h = h
meets-lived now (Pending k g) key group served stream life h = h
meets-lived now (PendingRows p) key group served stream life h = h

pub meets-life : (past : History) (key group : List ℕ) → MeetsAscending (group_life past key group)
meets-life [] key group = tt
meets-life (e ∷ past) key group =
    meets-lived e.0 e.1 key group (list_all (λ one. is_some (group_life past one.key (read_group_of e.1))) (reads_of e.1)) (key_life past key) (group_life past key group) (meets-life past key group)

pub present-in-life : (past : History) (key group : List ℕ) (life : GroupLife) → group_life past key group ≡ Some life → PresentAscends life.events
present-in-life past key group life e = subst MeetsAscending e (meets-life past key group)
