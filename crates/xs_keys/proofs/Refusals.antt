-- What is refused changes nothing.
use Rattle.std.proofs.Common.{◌≡◌, ◌≢◌, ◌<◌, ℕ, eqb, ltb, Bool, true, false, cond, List, [], ◌∷◌, Ordering, Option}
use Rattle.std.proofs.Common.{Some, None, Result, Ok, Err, sym, ap, ◌∙◌, refl, arith}
use Rattle.std.specs.Ordering.{nat_cmp, is_lt, ordering_then}
use Rattle.std.specs.declared.cmp.Ordering.TheVariants.{Less, Equal, Greater}
use Rattle.std.proofs.lemmas.Bool.{false≢true}
use Rattle.std.proofs.lemmas.Cmp.{ranked}
use Rattle.xs_stream.specs.declared.add.AddId.TheVariants.{Auto, AutoSeq, Exact}
use Rattle.xs_stream.specs.Id.{id_cmp, is_below, zero_id, id_of_addition}
use Rattle.xs_stream.proofs.Order.{same_id}
use Rattle.xs_command.specs.WellFormed.{IsAddId, IsWellFormed}
use Rattle.xs_command.specs.declared.command.AddCommand.{AddCommand}
use Rattle.xs_keys.specs.Terms.{option_map_or, get, has_key, insert, remove, Id, AddId, AddError, Field, Trim}
use Rattle.xs_keys.specs.Terms.{StreamState, ids_of, GroupState, has_name, new_group, claim_by_ids, scan_of}
use Rattle.xs_keys.specs.Terms.{owned_count, Reply, Simple, Error, Int, NullBulk, Okay, Busy, NoGroup, Command, Ping}
use Rattle.xs_keys.specs.Terms.{Quit, Add, Delete, TrimTo, Len, Scan, GroupCreate, GroupDestroy, ConsumerCreate}
use Rattle.xs_keys.specs.Terms.{ConsumerDelete, ReadGroup, Ack, Pending, PendingRows, Claim, AutoClaim, DropKeys, Inspect}
use Rattle.xs_keys.specs.Terms.{GroupCreateCommand, ReadGroupCommand}
use Rattle.xs_keys.specs.Life.{add_entry}
use Rattle.xs_keys.specs.GroupAsk.{GroupAsk, create_consumer, delete_consumer, claim, auto_claim}
use Rattle.xs_keys.specs.GroupLife.{starting_id}
use Rattle.xs_keys.specs.Content.{Content, KeyState}
use Rattle.xs_keys.specs.ContentAfter.{stream_with, after_stream_event, after_ask, with_group}
use Rattle.xs_keys.specs.ContentAfter.{after_create, key_or_new, group_in, entries_in, has_all_groups_in}
use Rattle.xs_keys.specs.ContentAfter.{after_reads, content_after}
use Rattle.xs_keys.specs.ReplyParts.{array_or_null, assigned_reply, reply_of_group, reply_of_key, taken_reply}
use Rattle.xs_keys.specs.ReplyParts.{scan_reply}
use Rattle.xs_keys.specs.Reply.{parts, reply}
use Rattle.xs_keys.specs.Step.{is_error, IsUnchangedIfRefused}
use Rattle.xs_keys.proofs.AskSteps.{asked-missing}
use Rattle.xs_keys.proofs.NameMaps.{insert-same}

-- ---- ids

not_greater : (x : ℕ) → nat_cmp 0 x ≡ Greater → ⊥
not_greater x e = let low : x < 0 = ranked 0 x Greater (sym e) in omega (arith, low)

-- 0-0 is below each other id
pub first-below : (id : Id) → id ≢ zero_id → is_below zero_id id ≡ true
first-below id other = by (id_cmp zero_id id) refl where
  never : (ms seq : Ordering) → nat_cmp 0 id.ms ≡ ms → nat_cmp 0 id.seq ≡ seq → ordering_then ms seq ≡ Greater → ⊥
  never Less seq m s e = absurd (cc)
  never Equal seq m s e = not_greater id.seq (s ∙ e)
  never Greater seq m s e = not_greater id.ms m

  by : (r : Ordering) → id_cmp zero_id id ≡ r → is_below zero_id id ≡ true
  by Less e = ap is_lt e
  by Equal e = absurd (other (sym (same_id zero_id id e)))
  by Greater e = absurd (never (nat_cmp 0 id.ms) (nat_cmp 0 id.seq) refl refl e)

-- a new stream refuses no id that words can spell
never-refused : (now : ℕ) (id : AddId) → IsAddId id → is_error (assigned_reply (id_of_addition now zero_id id)) ≡ false
never-refused now Auto formed = refl
never-refused now (AutoSeq ms) formed = by (eqb ms 0) (ltb 0 ms) refl refl where
  by : (e l : Bool) → eqb ms 0 ≡ e → ltb 0 ms ≡ l → is_error (assigned_reply (id_of_addition now zero_id (AutoSeq ms))) ≡ false
  by true l f g = rw f refl
  by false true f g = rw (f, g) refl
  by false false f g = absurd (grind (arith, f, g))
never-refused now (Exact id) formed = rw (first-below id formed) refl

-- ---- commands

-- a refused addition leaves the stream unchanged
refused-stream : (given : Result Id AddError) (fields : List Field) (trim : Option Trim) (stream : StreamState) → is_error (assigned_reply given) ≡ true → stream_with given fields trim stream ≡ stream
refused-stream (Ok id) fields trim stream e = absurd (false≢true e)
refused-stream (Err refusal) fields trim stream e = refl

refused-add : (content : Content) (now : ℕ) (add : AddCommand) → IsAddId add.id → is_error (reply content now (Add add)) ≡ true → content_after content now (Add add) ≡ content
refused-add content now add formed = by (get content add.key) refl add.make where
  by : (key : Option KeyState) → get content add.key ≡ key → (make : Bool) → is_error (option_map_or (λ k. assigned_reply (id_of_addition now k.stream.top add.id)) (key_or_new make key) NullBulk) ≡ true
      → after_stream_event content add.key (add_entry now add.id add.fields add.trim) (key_or_new make key) ≡ content
  by (Some key) found make e =
      ap (λ stream. insert content add.key (record { stream = stream; groups = key.groups })) (refused-stream (id_of_addition now key.stream.top add.id) add.fields add.trim key.stream e)
      ∙ insert-same content add.key key found
  by None missing true e = absurd (false≢true (sym (never-refused now add.id formed) ∙ e))
  by None missing false e = refl

-- a group that doesn't exist is not asked
refused-ask : (content : Content) (now : ℕ) (name group : List ℕ) (ask : GroupAsk) (said : GroupState → Reply) → ((s : GroupState) → is_error (said s) ≡ false)
    → is_error (reply_of_group (group_in (get content name) group) said) ≡ true → after_ask content now name group ask ≡ content
refused-ask content now name group ask said never = by (group_in (get content name) group) refl where
  by : (found : Option GroupState) → group_in (get content name) group ≡ found → is_error (reply_of_group found said) ≡ true → after_ask content now name group ask ≡ content
  by None missing e = asked-missing content now name group ask missing
  by (Some s) found e = absurd (false≢true (sym (never s) ∙ e))

-- nor is one of a key that doesn't exist
refused-within : (content : Content) (now : ℕ) (name group : List ℕ) (ask : GroupAsk) (said : GroupState → Reply) → ((s : GroupState) → is_error (said s) ≡ false)
    → is_error (reply_of_key (get content name) (λ k. reply_of_group (get k.groups group) said)) ≡ true → after_ask content now name group ask ≡ content
refused-within content now name group ask said never = by (get content name) refl where
  by : (key : Option KeyState) → get content name ≡ key → is_error (reply_of_key key (λ k. reply_of_group (get k.groups group) said)) ≡ true → after_ask content now name group ask ≡ content
  by None missing e = asked-missing content now name group ask (ap (λ k. group_in k group) missing)
  by (Some key) found e = within (get key.groups group) refl e where
    within : (s : Option GroupState) → get key.groups group ≡ s → is_error (reply_of_group s said) ≡ true → after_ask content now name group ask ≡ content
    within None missing f = asked-missing content now name group ask (ap (λ k. group_in k group) found ∙ missing)
    within (Some s) has f = absurd (false≢true (sym (never s) ∙ f))

refused-create : (content : Content) (now : ℕ) (create : GroupCreateCommand) → is_error (reply content now (GroupCreate create)) ≡ true → content_after content now (GroupCreate create) ≡ content
refused-create content now create = by (key_or_new create.make (get content create.key)) where
  by : (key : Option KeyState) → is_error (reply_of_key key (λ k. cond (has_key k.groups create.group) (Error Busy) (Simple Okay))) ≡ true → after_create content create key ≡ content
  by None e = refl
  by (Some key) e = within (has_key key.groups create.group) e where
    within : (t : Bool) → is_error (cond t (Error Busy) (Simple Okay)) ≡ true
        → cond t content (insert content create.key (with_group key create.group (new_group (starting_id create.start key.stream.top)))) ≡ content
    within true f = refl
    within false f = absurd (false≢true f)

refused-destroy : (content : Content) (now : ℕ) (name group : List ℕ) → is_error (reply content now (GroupDestroy name group)) ≡ true → content_after content now (GroupDestroy name group) ≡ content
refused-destroy content now name group = by (get content name) where
  by : (key : Option KeyState) → is_error (reply_of_key key (λ k. Int (cond (has_key k.groups group) 1 0))) ≡ true
      → option_map_or (λ k. insert content name (record k { groups = remove k.groups group })) key content ≡ content
  by None e = refl
  by (Some key) e = absurd (false≢true e)

no_error : (replies : List Reply) → is_error (array_or_null replies) ≡ false
no_error [] = refl
no_error (r ∷ rs) = refl

refused-read : (content : Content) (now : ℕ) (read : ReadGroupCommand) → is_error (reply content now (ReadGroup read)) ≡ true → content_after content now (ReadGroup read) ≡ content
refused-read content now read = by (has_all_groups_in content read) where
  by : (t : Bool) → is_error (cond t (array_or_null (parts content now read read.reads)) (Error NoGroup)) ≡ true → cond t (after_reads content now read read.reads) content ≡ content
  by true e = absurd (false≢true (sym (no_error (parts content now read read.reads)) ∙ e))
  by false e = refl

pub refused-unchanged : (content : Content) (now : ℕ) (command : Command) → IsWellFormed command → IsUnchangedIfRefused content now command
refused-unchanged content now (Ping message) formed = λ e. refl
refused-unchanged content now Quit formed = λ e. refl
refused-unchanged content now (Add add) formed = refused-add content now add formed.0
refused-unchanged content now (Delete name ids) formed = λ e. absurd (false≢true e)
refused-unchanged content now (TrimTo name trim) formed = λ e. absurd (false≢true e)
refused-unchanged content now (Len name) formed = λ e. refl
refused-unchanged content now (Inspect inspection) formed = λ e. refl
refused-unchanged content now (Scan scan) formed = λ e. refl
refused-unchanged content now (GroupCreate create) formed = refused-create content now create
refused-unchanged content now (GroupDestroy name group) formed = refused-destroy content now name group
refused-unchanged content now (ConsumerCreate name group consumer) formed = refused-within content now name group (create_consumer consumer) (λ s. Int (cond (has_name s.consumers consumer) 0 1)) (λ s. refl)
refused-unchanged content now (ConsumerDelete name group consumer) formed = refused-within content now name group (delete_consumer consumer) (λ s. Int (owned_count consumer s)) (λ s. refl)
refused-unchanged content now (ReadGroup read) formed = refused-read content now read
refused-unchanged content now (Ack name group ids) formed = λ e. absurd (false≢true e)
refused-unchanged content now (Pending name group) formed = λ e. refl
refused-unchanged content now (PendingRows p) formed = λ e. refl
refused-unchanged content now (Claim c) formed =
    let entries = entries_in (get content c.key) in
    refused-ask content now c.key c.group (claim c.consumer c.rule c.ids) (λ g. taken_reply c.rule.just_id entries (claim_by_ids g.rows.entries (ids_of entries) now c.rule c.ids).take) (λ s. refl)
refused-unchanged content now (AutoClaim c) formed =
    let entries = entries_in (get content c.key) in
    refused-ask content now c.key c.group (auto_claim c.consumer c.rule c.start c.limit)
    (λ g. scan_reply c.rule.just_id entries (scan_of g.rows.entries (ids_of entries) now c.rule c.start c.limit)) (λ s. refl)
refused-unchanged content now (DropKeys names) formed = λ e. absurd (false≢true e)
