-- Entries stay in a stream, and groups stay open, until a command removes them.
use Rattle.std.proofs.Common.{◌≡◌, ℕ, Bool, true, false, cond, not, ◌&&◌, ◌||◌, List, [], ◌∷◌, ◌++◌, filter, Option}
use Rattle.std.proofs.Common.{Some, None, is_some, sym, ap, ◌∙◌, refl}
use Rattle.std.proofs.lemmas.Bool.{false≢true, and_from, or_left}
use Rattle.std.proofs.lemmas.List.{append-nil}
use Rattle.xs_keys.specs.Event.{Event, History}
use Rattle.xs_keys.specs.Terms.{list_all, option_map, option_map_or, option_or, Id, has_id, id_of_addition, zero_id}
use Rattle.xs_keys.specs.Terms.{ids_of}
use Rattle.xs_keys.specs.Terms.{is_trimmed, is_same_name, Command, Ping, Quit, Add, Delete, TrimTo, Len, Scan}
use Rattle.xs_keys.specs.Terms.{GroupCreate, GroupDestroy, ConsumerCreate, ConsumerDelete, ReadGroup, Ack, Pending}
use Rattle.xs_keys.specs.Terms.{PendingRows, Claim, AutoClaim, DropKeys, Inspect, ReadGroupCommand, ReadOne}
use Rattle.xs_keys.specs.Life.{StreamEvent, add_entry, delete_entries, trim_entries, is_listed, life_or_new}
use Rattle.xs_keys.specs.Life.{key_life_after, key_life, entries_added_by, added_in, top, removes_id, is_present}
use Rattle.xs_keys.specs.Life.{present_entries}
use Rattle.xs_keys.specs.GroupAsk.{GroupAsk, create_consumer, delete_consumer, acknowledge, claim, auto_claim}
use Rattle.xs_keys.specs.GroupLife.{GroupLife, present_in, starting_id, new_life, life_after_ask, ask_of_read}
use Rattle.xs_keys.specs.GroupLife.{life_after_reads, group_life_after, reads_of, read_group_of, group_life}
use Rattle.xs_keys.specs.Effect.{ends_group}
use Rattle.xs_keys.specs.Presence.{may_remove_entry, has_to_remove, EntryStays, EntriesStay, has_to_create, GroupsStay}
use Rattle.xs_keys.proofs.Truths.{first_of, second_of, or_false}
use Rattle.xs_keys.proofs.IdsAtEvents.{present-added, present-before, added-up_to}
use Rattle.xs_keys.proofs.JobMoves.{was-dropped, not-present, trimmed-below}

-- ---- entries

same : (command : Command) (key : List ℕ) (ids given : List Id) (x : Id) → has_to_remove command key ids x ≡ false → EntryStays command key ids ids given x
same command key ids given x none = record {
  unless_removed = λ b a. absurd (false≢true (sym a ∙ b));
  is_removed = λ r. absurd (false≢true (sym none ∙ r));
  comes_new = λ b a. absurd (false≢true (sym b ∙ a));
}

-- there is no stream before or after
nothing : (command : Command) (key : List ℕ) (given : List Id) (x : Id) → EntryStays command key [] [] given x
nothing command key given x = record {
  unless_removed = λ b a. absurd (false≢true b);
  is_removed = λ r. refl;
  comes_new = λ b a. absurd (false≢true a);
}

-- the command removes what a change drops, and the change drops what the command has to remove
record Changes (command : Command) (key : List ℕ) (x : Id) (change : StreamEvent) (past : List StreamEvent) : Type 0 where
  may : removes_id change (top past) (ids_of (filter (λ e. is_present past e.0) (added_in past) ++ entries_added_by change (top past))) x ≡ true → may_remove_entry command key (ids_of (present_entries past)) x ≡ true
  must : has_to_remove command key (ids_of (present_entries past)) x ≡ true → removes_id change (top past) (ids_of (filter (λ e. is_present past e.0) (added_in past) ++ entries_added_by change (top past))) x ≡ true

changed : (command : Command) (key : List ℕ) (x : Id) (change : StreamEvent) (past : List StreamEvent) → Changes command key x change past
    → EntryStays command key (ids_of (present_entries past)) (ids_of (present_entries (change ∷ past))) (ids_of (added_in past)) x
changed command key x change past does = record {
  unless_removed = λ b a. does.may (was-dropped zero_id [] change past x (present-added past x b) b a);
  is_removed = λ r. not-present change past x (does.must r);
  comes_new = λ b a. by b a (has_id (ids_of (added_in past)) x) refl;
} where
  by : has_id (ids_of (present_entries past)) x ≡ false → has_id (ids_of (present_entries (change ∷ past))) x ≡ true → (g : Bool) → has_id (ids_of (added_in past)) x ≡ g → g ≡ false
  by b a false e = refl
  by b a true e = absurd (false≢true (sym b ∙ present-before change past x (added-up_to past x e) a))

-- a command that changes the stream, if it is this one
changes-stream : (command : Command) (key : List ℕ) (x : Id) (change : StreamEvent) (stream : Option (List StreamEvent)) (t : Bool)
    → (t ≡ true → (past : List StreamEvent) → Changes command key x change past) → (t ≡ false → (ids : List Id) → has_to_remove command key ids x ≡ false)
    → EntryStays command key (present_in stream) (present_in (cond t (option_map (λ changes. change ∷ changes) stream) stream)) (ids_of (option_map_or added_in stream [])) x
changes-stream command key x change stream false does idle = same command key (present_in stream) (ids_of (option_map_or added_in stream [])) x (idle refl (present_in stream))
changes-stream command key x change None true does idle = nothing command key [] x
changes-stream command key x change (Some past) true does idle = changed command key x change past (does refl past)

-- an addition that may create the stream
adds : (command : Command) (key : List ℕ) (x : Id) (change : StreamEvent) (make : Bool) (stream : Option (List StreamEvent)) (t : Bool)
    → (t ≡ true → (past : List StreamEvent) → Changes command key x change past) → ((ids : List Id) → has_to_remove command key ids x ≡ false)
    → EntryStays command key (present_in stream) (present_in (cond t (option_map (λ changes. change ∷ changes) (life_or_new make stream)) stream)) (ids_of (option_map_or added_in stream [])) x
adds command key x change make (Some past) t does idle = changes-stream command key x change (Some past) t does (λ e. idle)
adds command key x change make None false does idle = nothing command key [] x
adds command key x change false None true does idle = nothing command key [] x
adds command key x change true None true does idle = record {
  unless_removed = λ b a. absurd (false≢true b);
  is_removed = λ r. absurd (false≢true (sym (idle []) ∙ r));
  comes_new = λ b a. refl;
}

stays : (now : ℕ) (command : Command) (key : List ℕ) (stream : Option (List StreamEvent)) (x : Id)
    → EntryStays command key (present_in stream) (present_in (key_life_after now command key stream)) (ids_of (option_map_or added_in stream [])) x
stays now (Ping message) key stream x = same (Ping message) key (present_in stream) (ids_of (option_map_or added_in stream [])) x refl
stays now Quit key stream x = same Quit key (present_in stream) (ids_of (option_map_or added_in stream [])) x refl
stays now (Add add) key stream x =
    adds (Add add) key x (add_entry now add.id add.fields add.trim) add.make stream (is_same_name key add.key)
    (λ here past. record {
      may = λ e. or_left _ _ (and_from (is_same_name key add.key) _ here (trimmed-below (id_of_addition now (top past) add.id) add.fields add.trim (present_entries past) x e));
      must = λ r. absurd (false≢true r);
    })
    (λ ids. refl)
stays now (Delete k named) key stream x =
    changes-stream (Delete k named) key x (delete_entries named) stream (is_same_name key k)
    (λ here past. record {
      may = λ e. or_left _ _ (and_from (is_same_name key k) (has_id named x) here e);
      must = λ r. second_of (is_same_name key k) (has_id named x) (or_false _ r);
    })
    (λ away ids. ap (λ b. (b && has_id named x) || (false || false)) away)
stays now (TrimTo k trim) key stream x =
    changes-stream (TrimTo k trim) key x (trim_entries trim) stream (is_same_name key k)
    (λ here past. record {
      may = λ e. or_left _ _ (and_from (is_same_name key k) _ here (ap (λ es. is_trimmed trim (ids_of es) x) (sym (append-nil (present_entries past))) ∙ e));
      must = λ r. ap (λ es. is_trimmed trim (ids_of es) x) (append-nil (present_entries past)) ∙ second_of (is_same_name key k) _ (or_false _ r);
    })
    (λ away ids. ap (λ b. (b && is_trimmed trim ids x) || false) away)
stays now (Len name) key stream x = same (Len name) key (present_in stream) (ids_of (option_map_or added_in stream [])) x refl
stays now (Inspect inspection) key stream x = same (Inspect inspection) key (present_in stream) (ids_of (option_map_or added_in stream [])) x refl
stays now (Scan scan) key stream x = same (Scan scan) key (present_in stream) (ids_of (option_map_or added_in stream [])) x refl
stays now (GroupCreate create) key stream x = by (is_same_name key create.key) create.make stream where
  by : (t make : Bool) (stream : Option (List StreamEvent))
      → EntryStays (GroupCreate create) key (present_in stream) (present_in (cond t (life_or_new make stream) stream)) (ids_of (option_map_or added_in stream [])) x
  by true true None = nothing (GroupCreate create) key [] x
  by true false None = nothing (GroupCreate create) key [] x
  by true make (Some changes) = same (GroupCreate create) key (ids_of (present_entries changes)) (ids_of (added_in changes)) x refl
  by false make stream = same (GroupCreate create) key (present_in stream) (ids_of (option_map_or added_in stream [])) x refl
stays now (GroupDestroy name group) key stream x = same (GroupDestroy name group) key (present_in stream) (ids_of (option_map_or added_in stream [])) x refl
stays now (ConsumerCreate name group consumer) key stream x = same (ConsumerCreate name group consumer) key (present_in stream) (ids_of (option_map_or added_in stream [])) x refl
stays now (ConsumerDelete name group consumer) key stream x = same (ConsumerDelete name group consumer) key (present_in stream) (ids_of (option_map_or added_in stream [])) x refl
stays now (ReadGroup read) key stream x = same (ReadGroup read) key (present_in stream) (ids_of (option_map_or added_in stream [])) x refl
stays now (Ack name group ids) key stream x = same (Ack name group ids) key (present_in stream) (ids_of (option_map_or added_in stream [])) x refl
stays now (Pending name group) key stream x = same (Pending name group) key (present_in stream) (ids_of (option_map_or added_in stream [])) x refl
stays now (PendingRows rows) key stream x = same (PendingRows rows) key (present_in stream) (ids_of (option_map_or added_in stream [])) x refl
stays now (Claim c) key stream x = same (Claim c) key (present_in stream) (ids_of (option_map_or added_in stream [])) x refl
stays now (AutoClaim c) key stream x = same (AutoClaim c) key (present_in stream) (ids_of (option_map_or added_in stream [])) x refl
stays now (DropKeys keys) key stream x = by (is_listed keys key) refl where
  by : (t : Bool) → is_listed keys key ≡ t → EntryStays (DropKeys keys) key (present_in stream) (present_in (cond t None stream)) (ids_of (option_map_or added_in stream [])) x
  by true e = record { unless_removed = λ b a. e; is_removed = λ r. refl; comes_new = λ b a. absurd (false≢true a) }
  by false e = same (DropKeys keys) key (present_in stream) (ids_of (option_map_or added_in stream [])) x e

pub entries-stay : (earlier : History) (e : Event) → EntriesStay earlier e
entries-stay earlier e = λ key x. stays e.0 e.1 key (key_life earlier key) x

-- ---- groups

asked-open : (now : ℕ) (present : List Id) (ask : GroupAsk) (t : Bool) (life : GroupLife) → is_some (cond t (life_after_ask now present ask (Some life)) (Some life)) ≡ true
asked-open now present ask true life = refl
asked-open now present ask false life = refl

read-open : (now : ℕ) (present : List Id) (read : ReadGroupCommand) (key : List ℕ) (reads : List ReadOne) (life : Option GroupLife) → is_some life ≡ true → is_some (life_after_reads now present read key reads life) ≡ true
read-open now present read key [] life is = is
read-open now present read key (one ∷ more) None is = absurd (false≢true is)
read-open now present read key (one ∷ more) (Some life) is =
    read-open now present read key more (cond (is_same_name key one.key) (life_after_ask now present (ask_of_read read one.from) (Some life)) (Some life))
    (asked-open now present (ask_of_read read one.from) (is_same_name key one.key) life)

stays-open : (now : ℕ) (command : Command) (key group : List ℕ) (served : Bool) (stream : Option (List StreamEvent)) (life : GroupLife)
    → is_some (group_life_after now command key group served stream (Some life)) ≡ not (ends_group command key group)
stays-open now (Ping message) key group served stream life = refl
stays-open now Quit key group served stream life = refl
stays-open now (Add add) key group served stream life = refl
stays-open now (Delete name ids) key group served stream life = refl
stays-open now (TrimTo name trim) key group served stream life = refl
stays-open now (Len name) key group served stream life = refl
stays-open now (Inspect inspection) key group served stream life = refl
stays-open now (Scan scan) key group served stream life = refl
stays-open now (GroupCreate create) key group served stream life = by (is_same_name key create.key && is_same_name group create.group) where
  by : (t : Bool) → is_some (cond t (option_or (Some life) (new_life create stream)) (Some life)) ≡ true
  by true = refl
  by false = refl
stays-open now (GroupDestroy name g) key group served stream life = by (is_same_name key name && is_same_name group g) where
  by : (t : Bool) → is_some (cond t None (Some life)) ≡ not t
  by true = refl
  by false = refl
stays-open now (ConsumerCreate name g consumer) key group served stream life = asked-open now (present_in stream) (create_consumer consumer) (is_same_name key name && is_same_name group g) life
stays-open now (ConsumerDelete name g consumer) key group served stream life = asked-open now (present_in stream) (delete_consumer consumer) (is_same_name key name && is_same_name group g) life
stays-open now (ReadGroup read) key group served stream life = by (is_same_name group read.group && served) where
  by : (t : Bool) → is_some (cond t (life_after_reads now (present_in stream) read key read.reads (Some life)) (Some life)) ≡ true
  by true = read-open now (present_in stream) read key read.reads (Some life) refl
  by false = refl
stays-open now (Ack name g ids) key group served stream life = asked-open now (present_in stream) (acknowledge ids) (is_same_name key name && is_same_name group g) life
stays-open now (Pending name g) key group served stream life = refl
stays-open now (PendingRows rows) key group served stream life = refl
stays-open now (Claim c) key group served stream life = asked-open now (present_in stream) (claim c.consumer c.rule c.ids) (is_same_name key c.key && is_same_name group c.group) life
stays-open now (AutoClaim c) key group served stream life =
    asked-open now (present_in stream) (auto_claim c.consumer c.rule c.start c.limit) (is_same_name key c.key && is_same_name group c.group) life
stays-open now (DropKeys keys) key group served stream life = by (is_listed keys key) where
  by : (t : Bool) → is_some (cond t None (Some life)) ≡ not t
  by true = refl
  by false = refl

created : (now : ℕ) (command : Command) (key group : List ℕ) (served : Bool) (stream : Option (List StreamEvent)) (life : Option GroupLife)
    → has_to_create command key group stream ≡ true → is_some (group_life_after now command key group served stream life) ≡ true
created now (Ping message) key group served stream life e = absurd (false≢true e)
created now Quit key group served stream life e = absurd (false≢true e)
created now (Add add) key group served stream life e = absurd (false≢true e)
created now (Delete name ids) key group served stream life e = absurd (false≢true e)
created now (TrimTo name trim) key group served stream life e = absurd (false≢true e)
created now (Len name) key group served stream life e = absurd (false≢true e)
created now (Inspect inspection) key group served stream life e = absurd (false≢true e)
created now (Scan scan) key group served stream life e = absurd (false≢true e)
created now (GroupCreate create) key group served stream life e =
    new (is_same_name key create.key && is_same_name group create.group) (first_of (is_same_name key create.key && is_same_name group create.group) (create.make || is_some stream) e) life
  where
    made : (make : Bool) (stream : Option (List StreamEvent)) → (make || is_some stream) ≡ true → (f : List StreamEvent → GroupLife) → is_some (option_map f (life_or_new make stream)) ≡ true
    made true None e f = refl
    made false None e f = e
    made make (Some changes) e f = refl

    new : (t : Bool) → t ≡ true → (life : Option GroupLife) → is_some (cond t (option_or life (new_life create stream)) life) ≡ true
    new false e life = absurd (false≢true e)
    new true e (Some life) = refl
    new true f None = made create.make stream (second_of (is_same_name key create.key && is_same_name group create.group) (create.make || is_some stream) e) (λ changes. record { start = starting_id create.start (top changes); events = [] })
created now (GroupDestroy name g) key group served stream life e = absurd (false≢true e)
created now (ConsumerCreate name g consumer) key group served stream life e = absurd (false≢true e)
created now (ConsumerDelete name g consumer) key group served stream life e = absurd (false≢true e)
created now (ReadGroup read) key group served stream life e = absurd (false≢true e)
created now (Ack name g ids) key group served stream life e = absurd (false≢true e)
created now (Pending name g) key group served stream life e = absurd (false≢true e)
created now (PendingRows rows) key group served stream life e = absurd (false≢true e)
created now (Claim c) key group served stream life e = absurd (false≢true e)
created now (AutoClaim c) key group served stream life e = absurd (false≢true e)
created now (DropKeys keys) key group served stream life e = absurd (false≢true e)

pub groups-stay : (earlier : History) (e : Event) → GroupsStay earlier e
groups-stay earlier e = λ key group. (
  λ is. by key group (group_life earlier key group) is,
  λ has_to. created e.0 e.1 key group (list_all (λ one. is_some (group_life earlier one.key (read_group_of e.1))) (reads_of e.1)) (key_life earlier key) (group_life earlier key group) has_to,
) where
  by : (key group : List ℕ) (life : Option GroupLife) → is_some life ≡ true
      → is_some (group_life_after e.0 e.1 key group (list_all (λ one. is_some (group_life earlier one.key (read_group_of e.1))) (reads_of e.1)) (key_life earlier key) life) ≡ not (ends_group e.1 key group)
  by key group None is = absurd (false≢true is)
  by key group (Some life) is = stays-open e.0 e.1 key group (list_all (λ one. is_some (group_life earlier one.key (read_group_of e.1))) (reads_of e.1)) (key_life earlier key) life
