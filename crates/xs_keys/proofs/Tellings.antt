-- The replies to reads and claims report what is delivered and taken, each entry as it was added.
use Rattle.std.proofs.Common.{◌≡◌, ◌∙◌, inl, inr, ℕ, ◌+◌, ◌-◌, ◌≤◌, Bool, true, false, not, cond, ◌&&◌, ◌||◌, List, []}
use Rattle.std.proofs.Common.{◌∷◌, ◌++◌, length, Option, Some, None, Result, Ok, Err, is_some, filter, map, take}
use Rattle.std.proofs.Common.{bytes_eq, sym, ap, subst, refl, arith}
use Rattle.std.proofs.lemmas.Option.{same_Some}
use Rattle.std.proofs.lemmas.List.{append-nil, length-map}
use Rattle.std.proofs.lemmas.Bool.{false≢true, or_right, and_from}
use Rattle.std.specs.List.{flat_map, list_all, list_any, IsDistinct, AllByRecursion}
use Rattle.xs_stream.specs.Id.{is_below, is_same_id, has_id, zero_id, id_of_addition}
use Rattle.xs_stream.proofs.InOrder.{ids_of-filter, length-filter-le}
use Rattle.xs_stream.proofs.Order.{is_same_id-eq, is_same_id-refl}
use Rattle.xs_group.specs.GroupState.{GroupState, RowState, is_same_name, new_ids, reread_ids, ids_of_consumer}
use Rattle.xs_group.specs.GroupState.{group_after_ack}
use Rattle.xs_group.specs.GroupState.{unless_acked}
use Rattle.xs_group.specs.declared.claims.Scan as scans
use Rattle.xs_group.specs.Claims.{claim_by_ids, scan_of, claim_among, without_repeats, from_start, scanned_part}
use Rattle.xs_group.specs.declared.claims.ClaimRule.{ClaimRule}
use Rattle.xs_group.specs.Claims.{is_hit, is_taken, is_idle, row_at}
use Rattle.xs_group.specs.Report.{is_selected, pending_row, summary_of}
use Rattle.xs_group.proofs.RemovedRows.{length-change}
use Rattle.xs_keys.specs.Event.{History}
use Rattle.xs_command.specs.WellFormed.{IsWellFormed, keys_of}
use Rattle.xs_command.specs.declared.command.AddCommand.{AddCommand}
use Rattle.xs_keys.specs.Terms.{option_map, option_map_or, get, Id, Field, AddError, StreamState, Ascends, ids_of}
use Rattle.xs_keys.specs.Terms.{fields_at, is_trimmed, up_to_limit, Reply, NullBulk, NullArray, Error, Int, NoGroup}
use Rattle.xs_keys.specs.Terms.{Command, Ping, Quit, Add, Delete, TrimTo, Len, Scan, GroupCreate, GroupDestroy}
use Rattle.xs_keys.specs.Terms.{ConsumerCreate, ConsumerDelete, ReadGroup, Ack, Pending, PendingRows, Claim, AutoClaim}
use Rattle.xs_keys.specs.Terms.{DropKeys, Inspect, ReadGroupCommand, ReadOne, ReadFrom, New, After}
use Rattle.xs_keys.specs.Life.{StreamEvent, add_entry, delete_entries, trim_entries, life_or_new, key_life, entry_of}
use Rattle.xs_keys.specs.Life.{added_in, top_of, present_entries, is_present, stream_of}
use Rattle.xs_keys.specs.GroupEvent.{delivered_ids, cursor, pending_row_at, rows}
use Rattle.xs_keys.specs.Owner.{owner}
use Rattle.xs_keys.specs.GroupAsk.{claim, auto_claim, acknowledge}
use Rattle.xs_keys.specs.GroupLife.{GroupLife, group_life, life_after_ask, present_in, is_new, reads_new_entries}
use Rattle.xs_keys.specs.GroupLife.{has_all_groups, ids_delivered_by, ask_of_read}
use Rattle.xs_keys.specs.Content.{Content, KeyState, IsContent, IsGroupOfLife, GroupHolds, KeyHolds}
use Rattle.xs_keys.specs.ContentAfter.{key_or_new, stream_after, group_in, entries_in, after_ask}
use Rattle.xs_keys.specs.Reply.{reply, parts_of_read, parts, removed_count}
use Rattle.xs_keys.specs.ReplyParts.{assigned_reply, array, array_or_null, id_reply, field_replies, entry_reply}
use Rattle.xs_keys.specs.ReplyParts.{stream_part, new_part, reply_of_group, owner_reply, summary_reply, row_reply}
use Rattle.xs_keys.specs.ReplyParts.{taken_reply, scan_reply}
use Rattle.xs_keys.specs.Telling.{TellsEntry, TellsEntryOrNull, TellsEach, AreFirst}
use Rattle.xs_keys.specs.Life.{added_at}
use Rattle.xs_keys.specs.RepliesTell.{TellsAddition, TellsFewer, present_count, pending_count, scan_at, TellsTaken}
use Rattle.xs_keys.specs.RepliesTell.{TellsRows, IsReported}
use Rattle.xs_keys.specs.ReadsTell.{TellsNew, IsOwnPast, TellsRead, TellsReads}
use Rattle.xs_keys.proofs.Truths.{first_of, second_of}
use Rattle.xs_keys.proofs.IdLists.{has_id-where, ascends-where}
use Rattle.xs_keys.proofs.NameMaps.{is_same_name-eq, is_same_name-refl}
use Rattle.xs_keys.proofs.Streams.{ascends-present, stream-step}
use Rattle.xs_keys.proofs.GroupSteps.{group-step}
use Rattle.xs_keys.proofs.Deliveries.{ascends-delivered}
use Rattle.xs_keys.proofs.Histories.{present-in-life}
use Rattle.xs_keys.proofs.Contents.{no_life, asked-elsewhere, serves-known}
use Rattle.xs_keys.proofs.Lives.{others-absent}
use Rattle.xs_keys.proofs.Owners.{owner-row, of_row, held-delivered}
use Rattle.xs_keys.proofs.IdsAtEvents.{limited-has}
use Rattle.xs_keys.proofs.JobCounts.{owned-among, ascends-rows}
use Rattle.xs_keys.proofs.Assigning.{assigned-claim, assigned-scan}
use Rattle.xs_keys.proofs.RowsReported.{rows-reported}
use Rattle.xs_keys.proofs.FirstIds.{limited-first, first-as}
use Rattle.xs_keys.proofs.AskSteps.{said-of}

-- ---- entries as they were added

-- each of these ids is one of those
abbrev AreAmong : List Id → List Id → Type 0
AreAmong xs all = (x : Id) → has_id xs x ≡ true → has_id all x ≡ true

-- if some ids are dropped, the others keep their fields
fields-kept : (p : Id → Bool) (given : List (Id × List Field)) (x : Id) → p x ≡ true → fields_at (filter (λ e. p e.0) given) x ≡ fields_at given x
fields-kept p [] x h = refl
fields-kept p (e ∷ es) x h = by (p e.0) (is_same_id x e.0) refl refl (fields-kept p es x h) where
  by : (kept same : Bool) → p e.0 ≡ kept → is_same_id x e.0 ≡ same → fields_at (filter (λ f. p f.0) es) x ≡ fields_at es x
      → fields_at (cond kept (e ∷ filter (λ f. p f.0) es) (filter (λ f. p f.0) es)) x ≡ cond same (Some e.1) (fields_at es x)
  by true same k s rest = ap (λ t. cond t (Some e.1) (fields_at (filter (λ f. p f.0) es) x)) s ∙ ap (cond same (Some e.1)) rest
  by false true k s rest = absurd (false≢true (sym k ∙ ap p (sym (is_same_id-eq x e.0 s)) ∙ h))
  by false false k s rest = rest

-- an entry has fields exactly if it is there
fields-found : (es : List (Id × List Field)) (x : Id) → has_id (ids_of es) x ≡ is_some (fields_at es x)
fields-found [] x = refl
fields-found (e ∷ es) x = by (is_same_id x e.0) (fields-found es x) where
  by : (t : Bool) → has_id (ids_of es) x ≡ is_some (fields_at es x) → (t || has_id (ids_of es) x) ≡ is_some (cond t (Some e.1) (fields_at es x))
  by true rest = refl
  by false rest = rest

-- an entry that is in the stream is reported as it was added
tells-entry : (changes : List StreamEvent) (x : Id) → has_id (ids_of (present_entries changes)) x ≡ true → TellsEntry (added_in changes) x (entry_reply (present_entries changes) x)
tells-entry changes x h = by (fields_at (present_entries changes) x) refl where
  stays : is_present changes x ≡ true
  stays = first_of (is_present changes x) (has_id (ids_of (added_in changes)) x) (sym (ap (λ ids. has_id ids x) (ids_of-filter (is_present changes) (added_in changes)) ∙ has_id-where (is_present changes) (ids_of (added_in changes)) x) ∙ h)

  by : (fields : Option (List Field)) → fields_at (present_entries changes) x ≡ fields → TellsEntry (added_in changes) x (entry_reply (present_entries changes) x)
  by None e = absurd (false≢true (sym (fields-found (present_entries changes) x ∙ ap is_some e) ∙ h))
  by (Some fields) e = (
    fields,
    sym (fields-kept (is_present changes) (added_in changes) x stays) ∙ e,
    ap (λ (f : Option (List Field)). array (id_reply x ∷ option_map_or (λ fs. array (flat_map field_replies fs)) f NullArray ∷ [])) e,
  )

-- one that has left it is reported with the null array
tells-null : (changes : List StreamEvent) (x : Id) → has_id (ids_of (present_entries changes)) x ≡ false → entry_reply (present_entries changes) x ≡ array (id_reply x ∷ NullArray ∷ [])
tells-null changes x h = by (fields_at (present_entries changes) x) refl where
  by : (fields : Option (List Field)) → fields_at (present_entries changes) x ≡ fields → entry_reply (present_entries changes) x ≡ array (id_reply x ∷ NullArray ∷ [])
  by None e = ap (λ (f : Option (List Field)). array (id_reply x ∷ option_map_or (λ fs. array (flat_map field_replies fs)) f NullArray ∷ [])) e
  by (Some fields) e = absurd (false≢true (sym h ∙ fields-found (present_entries changes) x ∙ ap is_some e))

tells-each : (Tells : Id → Reply → Type 0) (f : Id → Reply) (xs : List Id) → ((x : Id) → has_id xs x ≡ true → Tells x (f x)) → TellsEach Tells xs (map f xs)
tells-each Tells f [] tells = tt
tells-each Tells f (x ∷ xs) tells = (tells x (rw is_same_id-refl refl), tells-each Tells f xs (λ y h. tells y (or_right (is_same_id y x) (has_id xs y) h)))

tells-entries : (changes : List StreamEvent) (xs : List Id) → AreAmong xs (ids_of (present_entries changes)) → TellsEach (TellsEntry (added_in changes)) xs (map (entry_reply (present_entries changes)) xs)
tells-entries changes xs among = tells-each (TellsEntry (added_in changes)) (entry_reply (present_entries changes)) xs (λ x h. tells-entry changes x (among x h))

tells-own : (changes : List StreamEvent) (xs : List Id) → TellsEach (TellsEntryOrNull (added_in changes) (ids_of (present_entries changes))) xs (map (entry_reply (present_entries changes)) xs)
tells-own changes xs = tells-each (TellsEntryOrNull (added_in changes) (ids_of (present_entries changes))) (entry_reply (present_entries changes)) xs (λ x h. (tells-entry changes x, tells-null changes x))

tells-new : (key : List ℕ) (changes : List StreamEvent) (xs : List Id) → AreAmong xs (ids_of (present_entries changes)) → TellsNew key (added_in changes) xs (new_part key (present_entries changes) xs)
tells-new key changes [] among = refl
tells-new key changes (x ∷ xs) among = (map (entry_reply (present_entries changes)) (x ∷ xs), refl, tells-entries changes (x ∷ xs) among)

-- a claim reports what it takes
abbrev TakenIs : Bool → List (Id × List Field) → List Id → Reply → Type 0
TakenIs just_id given ids answer = (told : List Reply) × (answer ≡ array told) × TellsTaken just_id given ids told

tells-taken : (just_id : Bool) (changes : List StreamEvent) (xs : List Id) → AreAmong xs (ids_of (present_entries changes)) → TakenIs just_id (added_in changes) xs (taken_reply just_id (present_entries changes) xs)
tells-taken true changes xs among = (map id_reply xs, refl, tells-each (λ x answer. answer ≡ id_reply x) id_reply xs (λ x h. refl))
tells-taken false changes xs among = (map (entry_reply (present_entries changes)) xs, refl, tells-entries changes xs among)

-- ---- what is delivered and taken is in the stream

new_ids-among : (limit : Option ℕ) (a : Id) (present : List Id) → AreAmong (new_ids limit a present) present
new_ids-among limit a present x h =
    let above = limited-has limit (filter (λ y. is_below a y) present) x h in
    second_of (is_below a x) (has_id present x) (sym (has_id-where (λ y. is_below a y) present x) ∙ above)

taken-among : (es : List (Id × RowState)) (present : List Id) (now : ℕ) (rule : ClaimRule) (ids : List Id) → AreAmong (claim_among es present now rule ids).take present
taken-among es present now rule ids x h =
    let taken = first_of (is_taken es present now rule x) (has_id ids x) (sym (has_id-where (is_taken es present now rule) ids x) ∙ h) in
    second_of (is_idle now rule (row_at es x)) (has_id present x) taken

-- ---- a group that exists

-- key and group exist, with their lives
pub record IsThere (c : Content) (past : History) (name group : List ℕ) : Type 0 where
  pub key : KeyState
  pub changes : List StreamEvent
  pub state : GroupState
  pub life : GroupLife
  pub key_is : get c name ≡ Some key
  pub changes_are : key_life past name ≡ Some changes
  pub state_is : get key.groups group ≡ Some state
  pub life_is : group_life past name group ≡ Some life
  pub stream_is : key.stream ≡ stream_of changes
  pub holds : IsGroupOfLife state life

there : (c : Content) (past : History) (name group : List ℕ) → IsContent c past → is_some (group_life past name group) ≡ true → IsThere c past name group
there c past name group is is_open = by (get c name) (key_life past name) refl refl (is name) where
  within : (key : KeyState) (changes : List StreamEvent) → get c name ≡ Some key → key_life past name ≡ Some changes → key.stream ≡ stream_of changes
      → (s : Option GroupState) (l : Option GroupLife) → get key.groups group ≡ s → group_life past name group ≡ l → GroupHolds s l → IsThere c past name group
  within key changes e f stream None None g h holds = absurd (false≢true (ap is_some (sym h) ∙ is_open))
  within key changes e f stream (Some state) (Some life) g h holds = record {
    key = key;
    changes = changes;
    state = state;
    life = life;
    key_is = e;
    changes_are = f;
    state_is = g;
    life_is = h;
    stream_is = stream;
    holds = holds;
  }
  within key changes e f stream None (Some life) g h holds = absurd holds
  within key changes e f stream (Some state) None g h holds = absurd holds

  by : (k : Option KeyState) (s : Option (List StreamEvent)) → get c name ≡ k → key_life past name ≡ s → KeyHolds k s (λ g. group_life past name g) → IsThere c past name group
  by None None e f holds = absurd (false≢true (ap is_some (sym (no_life (group_life past name group) (holds group))) ∙ is_open))
  by (Some key) (Some changes) e f holds = within key changes e f holds.0 (get key.groups group) (group_life past name group) refl refl (holds.1 group)
  by None (Some changes) e f holds = absurd holds
  by (Some key) None e f holds = absurd holds

-- ---- claims

-- without the group nothing is reported
missing : (c : Content) (past : History) (name group : List ℕ) → IsContent c past → is_some (group_life past name group) ≡ false → group_in (get c name) group ≡ None
missing c past name group is gone = by (get c name) (key_life past name) (is name) where
  within : (s : Option GroupState) (l : Option GroupLife) → is_some l ≡ false → GroupHolds s l → s ≡ None
  within None None g holds = refl
  within (Some state) (Some life) g holds = absurd (false≢true (sym g))
  within None (Some life) g holds = refl
  within (Some state) None g holds = absurd holds

  by : (k : Option KeyState) (s : Option (List StreamEvent)) → KeyHolds k s (λ g. group_life past name g) → group_in k group ≡ None
  by None s holds = refl
  by (Some key) (Some changes) holds = within (get key.groups group) (group_life past name group) gone (holds.1 group)
  by (Some key) None holds = absurd holds

-- what XCLAIM reports
reported-claim : (c : Content) (past : History) (now : ℕ) (name group consumer : List ℕ) (rule : ClaimRule) (ids : List Id) (t : IsThere c past name group)
    → TakenIs rule.just_id (added_at past name) (scan_at past now name group (claim consumer rule ids)).claim.take
    (taken_reply rule.just_id t.key.stream.entries (claim_by_ids t.state.rows.entries (ids_of t.key.stream.entries) now rule ids).take)
reported-claim c past now name group consumer rule ids t =
    rw (t.changes_are, t.life_is, t.holds.rows_are, t.stream_is)
    (tells-taken rule.just_id t.changes (claim_by_ids (rows t.life.start t.life.events) (ids_of (present_entries t.changes)) now rule ids).take
    (taken-among (rows t.life.start t.life.events) (ids_of (present_entries t.changes)) now rule (without_repeats ids)))

-- what XAUTOCLAIM reports
reported-scan : (c : Content) (past : History) (now : ℕ) (name group consumer : List ℕ) (rule : ClaimRule) (start : Id) (limit : ℕ) (t : IsThere c past name group)
    → TakenIs rule.just_id (added_at past name) (scan_at past now name group (auto_claim consumer rule start limit)).claim.take
    (taken_reply rule.just_id t.key.stream.entries (scan_of t.state.rows.entries (ids_of t.key.stream.entries) now rule start limit).claim.take)
reported-scan c past now name group consumer rule start limit t =
    let es = rows t.life.start t.life.events in
    let present = ids_of (present_entries t.changes) in
    rw (t.changes_are, t.life_is, t.holds.rows_are, t.stream_is)
    (tells-taken rule.just_id t.changes (scan_of es present now rule start limit).claim.take
    (taken-among es present now rule (scanned_part (is_hit es present now rule) limit (from_start start es))))

-- and where it goes on, and what it removes
scan-is : (c : Content) (past : History) (now : ℕ) (name group consumer : List ℕ) (rule : ClaimRule) (start : Id) (limit : ℕ) (t : IsThere c past name group)
    → scan_of t.state.rows.entries (ids_of t.key.stream.entries) now rule start limit ≡ scan_at past now name group (auto_claim consumer rule start limit)
scan-is c past now name group consumer rule start limit t = rw (t.changes_are, t.life_is, t.holds.rows_are, t.stream_is) refl

-- ---- reads

-- the entries that a read with `>` delivers in a group that exists
new_ids-there : (c : Content) (past : History) (read : ReadGroupCommand) (name : List ℕ) (t : IsThere c past name read.group)
    → has_all_groups (group_life past) (ReadGroup read) ≡ true → reads_new_entries (ReadGroup read) name ≡ true
    → ids_delivered_by past (ReadGroup read) name read.group ≡ new_ids read.limit (cursor t.life.start t.life.events) (ids_of (present_entries t.changes))
new_ids-there c past read name t act new = rw (new, act, is_same_name-refl read.group, t.life_is, t.changes_are) refl

-- the entries that a consumer has
module _ (past : History) (key group : List ℕ) (life : GroupLife) (is : group_life past key group ≡ Some life) (consumer : List ℕ) where
  held : Id → Option RowState
  held x = pending_row_at life.start life.events x

  mine : Id → Bool
  mine x = option_map_or (λ row. is_same_name row.consumer consumer) (held x) false

  own : List Id
  own = ids_of_consumer consumer (rows life.start life.events)

  own-are : own ≡ filter (λ x. mine x) (delivered_ids life.start life.events)
  unfolding own mine held
  own-are = owned-among consumer (λ x. pending_row_at life.start life.events x) (delivered_ids life.start life.events)

  has-own : (x : Id) → has_id own x ≡ (mine x && has_id (delivered_ids life.start life.events) x)
  has-own x = ap (λ ids. has_id ids x) own-are ∙ has_id-where (λ y. mine y) (delivered_ids life.start life.events) x

  own-owner : (x : Id) → has_id own x ≡ true → owner life.start life.events x ≡ Some consumer
  unfolding mine held
  own-owner x h = owner-row life.start life.events x ∙ by (pending_row_at life.start life.events x) (first_of (mine x) (has_id (delivered_ids life.start life.events) x) (sym (has-own x) ∙ h)) where
    by : (r : Option RowState) → option_map_or (λ row. is_same_name row.consumer consumer) r false ≡ true → of_row r ≡ Some consumer
    by None e = absurd (false≢true e)
    by (Some row) e = ap Some (is_same_name-eq row.consumer consumer e)

  owner-own : (x : Id) → owner life.start life.events x ≡ Some consumer → has_id own x ≡ true
  unfolding mine held
  owner-own x h = has-own x ∙ by (pending_row_at life.start life.events x) refl (sym (owner-row life.start life.events x) ∙ h) where
    by : (r : Option RowState) → pending_row_at life.start life.events x ≡ r → of_row r ≡ Some consumer → (option_map_or (λ row. is_same_name row.consumer consumer) (pending_row_at life.start life.events x) false && has_id (delivered_ids life.start life.events) x) ≡ true
    by None e f = absurd (subst (λ o. cond (is_some o) (Unit {0}) ⊥) (sym f) tt)
    by (Some row) e f = rw (e, held-delivered life.start life.events x (ap is_some e)) (and_from (is_same_name row.consumer consumer) true (ap (λ name. is_same_name name consumer) (same_Some row.consumer consumer f) ∙ is_same_name-refl consumer) refl)

  -- those that a read shows are the first of them past an id
  pub shows-first : (from : Id) (limit : Option ℕ) → AreFirst (IsOwnPast (Some life) consumer from) limit (reread_ids consumer limit from (rows life.start life.events))
  unfolding own
  shows-first from limit = first-as (λ x. has_id past_from x ≡ true) (IsOwnPast (Some life) consumer from) limit (up_to_limit limit past_from)
      (λ x h. let both = sym (has_id-where (λ y. is_below from y) own x) ∙ h in (own-owner x (second_of (is_below from x) (has_id own x) both), first_of (is_below from x) (has_id own x) both))
      (λ x h. has_id-where (λ y. is_below from y) own x ∙ (λ i. h.1 i && owner-own x h.0 i))
      (limited-first limit past_from (ascends-where (λ y. is_below from y) own (subst Ascends (sym own-are) (ascends-where (λ y. mine y) (delivered_ids life.start life.events) (ascends-delivered life.start life.events (present-in-life past key group life is))))))
    where
      past_from : List Id
      past_from = filter (λ y. is_below from y) (ids_of_consumer consumer (rows life.start life.events))

-- one of the reads that are left: its key and its group are as they were before the event
reported-read : (c next : Content) (past : History) (read : ReadGroupCommand) (one : ReadOne) → IsThere c past one.key read.group → get next one.key ≡ get c one.key
    → has_all_groups (group_life past) (ReadGroup read) ≡ true → (is_new one.from ≡ true → reads_new_entries (ReadGroup read) one.key ≡ true)
    → TellsRead past read one.key one.from
    (option_map_or (parts_of_read read one.key one.from (entries_in (get next one.key))) (group_in (get next one.key) read.group) [])
reported-read c next past read one t same act asks = by one.from asks where
  by : (from : ReadFrom) → (is_new from ≡ true → reads_new_entries (ReadGroup read) one.key ≡ true)
      → TellsRead past read one.key from (option_map_or (parts_of_read read one.key from (entries_in (get next one.key))) (group_in (get next one.key) read.group) [])
  by New new =
      rw (same, t.key_is, t.state_is, t.stream_is, t.holds.cursor_is, new_ids-there c past read one.key t act (new refl), t.changes_are)
      (tells-new one.key t.changes (new_ids read.limit (cursor t.life.start t.life.events) (ids_of (present_entries t.changes))) (new_ids-among read.limit (cursor t.life.start t.life.events) (ids_of (present_entries t.changes))))
  by (After id) new =
      let ids = reread_ids read.consumer read.limit id (rows t.life.start t.life.events) in
      let here : get next one.key ≡ Some t.key = same ∙ t.key_is in (
        ids,
        map (entry_reply (present_entries t.changes)) ids,
        (λ i. option_map_or (parts_of_read read one.key (After id) (entries_in (here i))) (group_in (here i) read.group) [])
            ∙ ap (λ g. option_map_or (parts_of_read read one.key (After id) t.key.stream.entries) g []) t.state_is
            ∙ (λ i. stream_part one.key (t.stream_is i).entries (reread_ids read.consumer read.limit id (t.holds.rows_are i)) ∷ []),
        rw t.life_is (shows-first past one.key read.group t.life t.life_is read.consumer id read.limit),
        rw t.changes_are (tells-own t.changes ids),
      )

-- the reads that are left
reported-reads : (c : Content) (past : History) (now : ℕ) (read : ReadGroupCommand) → IsContent c past → has_all_groups (group_life past) (ReadGroup read) ≡ true
    → (reads : List ReadOne) (next : Content) → IsDistinct bytes_eq (keys_of reads)
    → list_all (λ one. is_some (group_life past one.key read.group)) reads ≡ true
    → ((key : List ℕ) → list_any (λ one. is_same_name key one.key) reads ≡ true → get next key ≡ get c key)
    → ((key : List ℕ) → list_any (λ one. is_same_name key one.key && is_new one.from) reads ≡ true → reads_new_entries (ReadGroup read) key ≡ true)
    → TellsReads past read reads (parts next now read reads)
unfolding IsDistinct
reported-reads c past now read is act [] next distinct open_all same asks = refl
reported-reads c past now read is act (one ∷ more) next distinct open_all same asks = (
  _,
  _,
  refl,
  reported-read c next past read one (there c past one.key read.group is (first_of (is_some (group_life past one.key read.group)) (list_all (λ o. is_some (group_life past o.key read.group)) more) open_all))
      (same one.key (rw (is_same_name-refl one.key) refl)) act (λ new. asks one.key (rw (is_same_name-refl one.key, new) refl)),
  reported-reads c past now read is act more (after_ask next now one.key read.group (ask_of_read read one.from)) distinct.1
      (second_of (is_some (group_life past one.key read.group)) (list_all (λ o. is_some (group_life past o.key read.group)) more) open_all)
      (λ key among. asked-elsewhere next now one.key read.group (ask_of_read read one.from) key (others key more distinct.0 among)
      ∙ same key (or_right (is_same_name key one.key) (list_any (λ o. is_same_name key o.key) more) among))
      (λ key among. asks key (or_right (is_same_name key one.key && is_new one.from) (list_any (λ o. is_same_name key o.key && is_new o.from) more) among)),
)
  where
    others : (key : List ℕ) (rest : List ReadOne) → AllByRecursion (λ y. bytes_eq one.key y ≡ false) (keys_of rest) → list_any (λ o. is_same_name key o.key) rest ≡ true → is_same_name key one.key ≡ false
    others key rest apart among = by (is_same_name key one.key) refl where
      by : (t : Bool) → is_same_name key one.key ≡ t → t ≡ false
      by false e = refl
      by true e = absurd (false≢true (sym (others-absent key one.key rest e apart) ∙ among))

-- ---- additions

reported-addition : (given : List (Id × List Field)) (fields : List Field) (id : Result Id AddError) → TellsAddition given fields (assigned_reply id) (given ++ entry_of id fields)
reported-addition given fields (Ok id) = inl (id, refl, refl)
reported-addition given fields (Err refusal) = inr (inl refl, append-nil given)

reported-add : (past : History) (c : Content) (now : ℕ) (add : AddCommand) → IsContent c past → IsReported past now (Add add) (reply c now (Add add))
reported-add past c now add is =
    subst (λ t. TellsAddition (option_map_or added_in (key_life past add.key) []) add.fields (reply c now (Add add))
    (option_map_or added_in (cond t (option_map (λ changes. add_entry now add.id add.fields add.trim ∷ changes) (life_or_new add.make (key_life past add.key))) (key_life past add.key)) []))
    (sym (is_same_name-refl add.key)) (by add.make (get c add.key) (key_life past add.key) (is add.key))
  where
    by : (make : Bool) (key : Option KeyState) (life : Option (List StreamEvent)) → KeyHolds key life (λ group. group_life past add.key group)
        → TellsAddition (option_map_or added_in life []) add.fields (option_map_or (λ k. assigned_reply (id_of_addition now k.stream.top add.id)) (key_or_new make key) NullBulk)
        (option_map_or added_in (option_map (λ changes. add_entry now add.id add.fields add.trim ∷ changes) (life_or_new make life)) [])
    by true None None h = reported-addition [] add.fields (id_of_addition now zero_id add.id)
    by false None None h = inr (inr refl, refl)
    by make None (Some changes) h = absurd h
    by make (Some key) None h = absurd h
    by make (Some key) (Some changes) h =
        subst (λ top. TellsAddition (added_in changes) add.fields (assigned_reply (id_of_addition now top add.id)) (added_in changes ++ entry_of (id_of_addition now (top_of (added_in changes)) add.id) add.fields))
        (sym (ap (λ s. s.top) h.0)) (reported-addition (added_in changes) add.fields (id_of_addition now (top_of (added_in changes)) add.id))

-- ---- numbers

-- the number of removed ones, if no more are removed than there were
tells-fewer : (before after : ℕ) → after ≤ before → before - after + after ≡ before
tells-fewer before after fewer = omega (arith, fewer)

ids-length : (es : List (Id × List Field)) → length (ids_of es) ≡ length es
ids-length es = length-map es (λ e. e.0)

-- a change of a stream that only removes
reported-removal : (past : History) (c : Content) (name : List ℕ) (change : StreamEvent) → IsContent c past
    → ((kept : StreamState) → length (stream_after change kept).entries ≤ length kept.entries)
    → removed_count change (get c name) + length (present_in (cond (is_same_name name name) (option_map (λ changes. change ∷ changes) (key_life past name)) (key_life past name))) ≡ present_count name past
reported-removal past c name change is fewer =
    subst (λ t. removed_count change (get c name) + length (present_in (cond t (option_map (λ changes. change ∷ changes) (key_life past name)) (key_life past name))) ≡ present_count name past)
    (sym (is_same_name-refl name)) (by (get c name) (key_life past name) (is name))
  where
    by : (key : Option KeyState) (life : Option (List StreamEvent)) → KeyHolds key life (λ group. group_life past name group)
        → removed_count change key + length (present_in (option_map (λ changes. change ∷ changes) life)) ≡ length (present_in life)
    by None None holds = refl
    by None (Some changes) holds = absurd holds
    by (Some key) None holds = absurd holds
    by (Some key) (Some changes) holds =
        let before : length key.stream.entries ≡ length (ids_of (present_entries changes)) = ap (λ (s : StreamState). length s.entries) holds.0 ∙ sym (ids-length (present_entries changes)) in
        let after : length (stream_after change key.stream).entries ≡ length (ids_of (present_entries (change ∷ changes))) =
        ap (λ (s : StreamState). length (stream_after change s).entries) holds.0 ∙ ap (λ (s : StreamState). length s.entries) (sym (stream-step change changes)) ∙ sym (ids-length (present_entries (change ∷ changes))) in
        ap (λ n. length key.stream.entries - length (stream_after change key.stream).entries + n) (sym after)
        ∙ tells-fewer (length key.stream.entries) (length (stream_after change key.stream).entries) (fewer key.stream) ∙ before

reported-length : (past : History) (c : Content) (name : List ℕ) → IsContent c past → Int (length (entries_in (get c name))) ≡ Int (present_count name past)
reported-length past c name is = ap Int (by (get c name) (key_life past name) (is name)) where
  by : (key : Option KeyState) (life : Option (List StreamEvent)) → KeyHolds key life (λ group. group_life past name group) → length (entries_in key) ≡ length (present_in life)
  by None None holds = refl
  by None (Some changes) holds = absurd holds
  by (Some key) None holds = absurd holds
  by (Some key) (Some changes) holds = ap (λ (s : StreamState). length s.entries) holds.0 ∙ sym (ids-length (present_entries changes))

-- the number of entries that an acknowledgement settles
reported-ack : (past : History) (c : Content) (now : ℕ) (name group : List ℕ) (ids : List Id) → IsContent c past
    → TellsFewer (pending_count name group) past (now, Ack name group ids) (reply c now (Ack name group ids))
reported-ack past c now name group ids is = (_, refl, by (is_some (group_life past name group)) refl) where
  gone : Option GroupState → ℕ
  gone group = option_map_or (λ g. length g.rows.entries - length (group_after_ack ids g).rows.entries) group 0

  count : Option GroupLife → ℕ
  count life = option_map_or (λ l. length (rows l.start l.events)) life 0

  lived : Option GroupLife → Option GroupLife
  lived life = life_after_ask now (present_in (key_life past name)) (acknowledge ids) life

  own : count (group_life ((now, Ack name group ids) ∷ past) name group) ≡ count (lived (group_life past name group))
  own = λ i. count (cond (is_same_name-refl name i && is_same_name-refl group i) (life_after_ask now (present_in (key_life past name)) (acknowledge ids) (group_life past name group)) (group_life past name group))

  nothing : (life : Option GroupLife) → is_some life ≡ false → 0 + count (lived life) ≡ count life
  nothing None e = refl
  nothing (Some life) e = absurd (false≢true (sym e))

  by : (t : Bool) → is_some (group_life past name group) ≡ t → gone (group_in (get c name) group) + pending_count name group ((now, Ack name group ids) ∷ past) ≡ pending_count name group past
  by false e = (λ i. gone (missing c past name group is e i) + own i) ∙ nothing (group_life past name group) e
  by true e =
      let t = there c past name group is e in
      let ascend : Ascends (present_in (key_life past name)) = rw t.changes_are (ascends-present t.changes) in
      let step = group-step t.life t.state t.holds now (present_in (key_life past name)) ascend (acknowledge ids) in
      let number : gone (group_in (get c name) group) ≡ length t.state.rows.entries - length (group_after_ack ids t.state).rows.entries =
      (λ i. gone (group_in (t.key_is i) group)) ∙ ap gone t.state_is in
      let after : pending_count name group ((now, Ack name group ids) ∷ past) ≡ length (group_after_ack ids t.state).rows.entries =
      own ∙ ap (λ l. count (lived l)) t.life_is ∙ ap length (sym step.rows_are) in
      let before : pending_count name group past ≡ length t.state.rows.entries = ap count t.life_is ∙ ap length (sym t.holds.rows_are) in
      (λ i. number i + after i) ∙ tells-fewer (length t.state.rows.entries) (length (group_after_ack ids t.state).rows.entries) (length-change (unless_acked ids) t.state.rows) ∙ sym before

-- ---- every command

pub is-reported : (past : History) (c : Content) (now : ℕ) (command : Command) → IsContent c past → IsWellFormed command → IsReported past now command (reply c now command)
is-reported past c now (ReadGroup read) is formed = (
  λ act. (
    parts c now read read.reads,
    ap (λ b. cond b (array_or_null (parts c now read read.reads)) (Error NoGroup)) (serves-known read.reads c past read.group is ∙ act),
    reported-reads c past now read is act read.reads c formed.1 act (λ key among. refl) (λ key among. among),
  ),
  λ gone. ap (λ b. cond b (array_or_null (parts c now read read.reads)) (Error NoGroup)) (serves-known read.reads c past read.group is ∙ gone),
)
is-reported past c now (Claim command) is formed = (
  λ is_open.
      let t = there c past command.key command.group is is_open in
      let told = reported-claim c past now command.key command.group command.consumer command.rule command.ids t in (
        told.0,
        said-of c command.key command.group t.key t.state t.key_is t.state_is
            (λ entries g. taken_reply command.rule.just_id entries (claim_by_ids g.rows.entries (ids_of entries) now command.rule command.ids).take) ∙ told.1,
        told.2,
        rw (is_same_name-refl command.key, is_same_name-refl command.group, t.life_is, t.changes_are)
            (assigned-claim t.life.start t.life.events now (ids_of (present_entries t.changes)) command.consumer command.rule command.ids),
      ),
  λ gone. rw (missing c past command.key command.group is gone) refl,
)
is-reported past c now (AutoClaim command) is formed = (
  λ is_open.
      let t = there c past command.key command.group is is_open in
      let found = scan_of t.state.rows.entries (ids_of t.key.stream.entries) now command.rule command.start command.limit in
      let told = reported-scan c past now command.key command.group command.consumer command.rule command.start command.limit t in (
        told.0,
        said-of c command.key command.group t.key t.state t.key_is t.state_is
            (λ entries g. scan_reply command.rule.just_id entries (scan_of g.rows.entries (ids_of entries) now command.rule command.start command.limit))
            ∙ ap (λ taken. array (id_reply found.cursor ∷ taken ∷ array (map id_reply found.claim.removed) ∷ [])) told.1
            ∙ ap (λ (s : scans.Scan). array (id_reply s.cursor ∷ array told.0 ∷ array (map id_reply s.claim.removed) ∷ []))
            (scan-is c past now command.key command.group command.consumer command.rule command.start command.limit t),
        told.2,
        rw (is_same_name-refl command.key, is_same_name-refl command.group, t.life_is, t.changes_are)
            (assigned-scan t.life.start t.life.events now (ids_of (present_entries t.changes)) command.consumer command.rule command.start command.limit),
      ),
  λ gone. rw (missing c past command.key command.group is gone) refl,
)
is-reported past c now (Ping message) is formed = tt
is-reported past c now Quit is formed = tt
is-reported past c now (Add add) is formed = reported-add past c now add is
is-reported past c now (Delete key ids) is formed = (_, refl, reported-removal past c key (delete_entries ids) is (λ kept. length-filter-le (λ e. not (has_id ids e.0)) kept.entries))
is-reported past c now (TrimTo key trim) is formed =
    (_, refl, reported-removal past c key (trim_entries trim) is (λ kept. length-filter-le (λ e. not (is_trimmed trim (ids_of kept.entries) e.0)) kept.entries))
is-reported past c now (Len key) is formed = reported-length past c key is
is-reported past c now (Scan scan) is formed = tt
is-reported past c now (GroupCreate create) is formed = tt
is-reported past c now (GroupDestroy key group) is formed = tt
is-reported past c now (ConsumerCreate key group consumer) is formed = tt
is-reported past c now (ConsumerDelete key group consumer) is formed = tt
is-reported past c now (Ack key group ids) is formed = reported-ack past c now key group ids is
is-reported past c now (Pending key group) is formed = (
  λ is_open.
      let t = there c past key group is is_open in
      let told = summary_of t.state in
      let or_null : Option Id → Reply = λ x. option_map_or id_reply x NullBulk in
      let rest : List Reply = or_null told.least ∷ or_null told.greatest ∷ array_or_null (map owner_reply told.owners) ∷ [] in (
        rest,
        (λ i. reply_of_group (group_in (t.key_is i) group) (λ g. summary_reply (summary_of g))) ∙ ap (λ g. reply_of_group g (λ s. summary_reply (summary_of s))) t.state_is
            ∙ ap (λ n. array (Int n ∷ rest)) (ap length t.holds.rows_are ∙ sym (ap (λ life. option_map_or (λ l. length (rows l.start l.events)) life 0) t.life_is)),
      ),
  λ gone. rw (missing c past key group is gone) refl,
)
is-reported past c now (PendingRows after_ask) is formed = (
  λ is_open life life_is.
      let t = there c past after_ask.key after_ask.group is is_open in
      rw (t.key_is, t.state_is, t.holds.rows_are) (subst (λ (l : GroupLife). TellsRows after_ask now life (array (map row_reply (take after_ask.limit (map (pending_row now) (filter (is_selected after_ask.range after_ask.min_idle now after_ask.consumer) (rows l.start l.events)))))))
      (ap (λ (l : Option GroupLife). option_map_or (λ a. a) l life) (sym life_is ∙ t.life_is))
      (rows-reported after_ask now life (ascends-rows life.start life.events (present-in-life past after_ask.key after_ask.group life life_is)))),
  λ gone. rw (missing c past after_ask.key after_ask.group is gone) refl,
)
is-reported past c now (DropKeys keys) is formed = tt
is-reported past c now (Inspect inspection) is formed = (c, is, refl)
