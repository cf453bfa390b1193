-- Every content of a history is consistent.
use Rattle.std.proofs.Common.{◌≡◌, ℕ, Bool, true, false, cond, List, [], ◌∷◌, Option, Some, None, is_some}
use Rattle.std.proofs.Common.{option_and_then, ◌&&◌, sym, ap, subst, ◌∙◌, refl}
use Rattle.std.proofs.lemmas.Option.{same_Some}
use Rattle.std.proofs.lemmas.Bool.{false≢true}
use Rattle.xs_bytes.specs.SortedMap.{get}
use Rattle.xs_group.specs.GroupState.{RowState, GroupState, is_same_name, has_name, new_ids, first_row, reread_ids}
use Rattle.xs_group.specs.GroupState.{redelivered_row}
use Rattle.xs_group.specs.GroupState.{unless_owned}
use Rattle.xs_keys.specs.Event.{History}
use Rattle.xs_keys.specs.Terms.{with_some, Id, has_id, Ascends, AllAbove, AllUpTo}
use Rattle.xs_keys.specs.Life.{StreamEvent, key_life, stream_of}
use Rattle.xs_keys.specs.GroupAsk.{GroupAsk, read_new, read_own, acknowledge, create_consumer, delete_consumer, claim}
use Rattle.xs_keys.specs.GroupAsk.{auto_claim, row_after_ask}
use Rattle.xs_keys.specs.GroupEvent.{GroupEvent, delivered_ids, cursor, is_consumer, rows_among, pending_row_at, rows}
use Rattle.xs_keys.specs.GroupLife.{GroupLife, group_life}
use Rattle.xs_keys.specs.Content.{KeyState, Content, IsGroupOfLife, GroupHolds, KeyHolds, IsContent}
use Rattle.xs_stream.specs.ConsistentStream.{IsConsistentStream}
use Rattle.xs_group.specs.ConsistentGroup.{IsConsistentGroup}
use Rattle.xs_group.specs.Indexes.{is_owner}
use Rattle.xs_keys.specs.ConsistentContent.{IsConsistentKey, IsConsistentContent}
use Rattle.xs_keys.proofs.Streams.{ascends-present, up_to-present}
use Rattle.xs_keys.proofs.GroupRows.{row_ids}
use Rattle.xs_keys.proofs.GroupSteps.{up_to-rows, seen-there}
use Rattle.xs_keys.proofs.Deliveries.{PresentAscends, ascends-delivered}
use Rattle.xs_keys.proofs.Histories.{MeetsAscending, meets-life}
use Rattle.xs_keys.proofs.Owners.{row-found}
use Rattle.xs_keys.proofs.NameMaps.{is_same_name-refl, is_same_name-eq}
use Rattle.xs_keys.proofs.IdsAtEvents.{up_to-has}
use Rattle.xs_keys.proofs.ClaimedIds.{row-listed}
use Rattle.xs_group.specs.Claims.{row_at, claim_by_ids, scan_of, claimed_row}
use Rattle.xs_group.specs.declared.claims.ClaimRule.{ClaimRule}

above-among : (a : Id) (row_of : Id → Option RowState) (xs : List Id) → AllAbove a xs → AllAbove a (row_ids (rows_among row_of xs))
above-among a row_of [] h = tt
above-among a row_of (x ∷ xs) h = by (row_of x) (above-among a row_of xs h.1) where
  by : (r : Option RowState) → AllAbove a (row_ids (rows_among row_of xs)) → AllAbove a (row_ids (with_some x r (rows_among row_of xs)))
  by None rest = rest
  by (Some row) rest = (h.0, rest)

ascends-among : (row_of : Id → Option RowState) (xs : List Id) → Ascends xs → Ascends (row_ids (rows_among row_of xs))
ascends-among row_of [] h = tt
ascends-among row_of (x ∷ xs) h = by (row_of x) (ascends-among row_of xs h.1) where
  by : (r : Option RowState) → Ascends (row_ids (rows_among row_of xs)) → Ascends (row_ids (with_some x r (rows_among row_of xs)))
  by None rest = rest
  by (Some row) rest = (above-among x row_of xs h.0, rest)

-- ---- each row's consumer is one of the group's

-- a consumer stays one, unless it is removed
still : (drops adds_consumer before : Bool) → drops ≡ false → before ≡ true → cond drops false (cond adds_consumer true before) ≡ true
still drops true before d b = rw d refl
still drops false before d b = rw d b

abbrev IsOfConsumers : List GroupEvent → Option RowState → Type 0
IsOfConsumers past r = (row : RowState) → r ≡ Some row → is_consumer past row.consumer ≡ true

module _ (past : List GroupEvent) (now : ℕ) (present : List Id) (a : Id) (es : List (Id × RowState)) (x : Id) where
  of-new : (consumer : List ℕ) (limit : Option ℕ) (noack d : Bool) (r : Option RowState) → IsOfConsumers past r
      → (row : RowState) → cond d (cond noack None (Some (first_row consumer now))) r ≡ Some row
      → cond (is_same_name row.consumer consumer) true (is_consumer past row.consumer) ≡ true
  of-new consumer limit true true r h row e = absurd (false≢true (ap is_some e))
  of-new consumer limit false true r h row e = ap (λ n. cond (is_same_name n consumer) true (is_consumer past n)) (sym (ap (λ o. o.consumer) (same_Some (first_row consumer now) row e))) ∙ ap (λ b. cond b true (is_consumer past consumer)) (is_same_name-refl consumer)
  of-new consumer limit noack false r h row e = still false (is_same_name row.consumer consumer) (is_consumer past row.consumer) refl (h row e)

  of-own : (consumer : List ℕ) (b : Bool) (r : Option RowState) → IsOfConsumers past r → (row : RowState)
      → option_and_then (λ o. cond b (Some (redelivered_row now o)) (Some o)) r ≡ Some row → cond (is_same_name row.consumer consumer) true (is_consumer past row.consumer) ≡ true
  of-own consumer b None h row e = absurd (false≢true (ap is_some e))
  of-own consumer true (Some o) h row e =
      still false (is_same_name row.consumer consumer) (is_consumer past row.consumer) refl (ap (is_consumer past) (sym (ap (λ p. p.consumer) (same_Some (redelivered_row now o) row e))) ∙ h o refl)
  of-own consumer false (Some o) h row e = still false (is_same_name row.consumer consumer) (is_consumer past row.consumer) refl (h row e)

  of-ack : (b : Bool) (r : Option RowState) → IsOfConsumers past r → (row : RowState) → option_and_then (λ o. cond b None (Some o)) r ≡ Some row → is_consumer past row.consumer ≡ true
  of-ack b None h row e = absurd (false≢true (ap is_some e))
  of-ack true (Some o) h row e = absurd (false≢true (ap is_some e))
  of-ack false (Some o) h row e = h row e

  of-leave : (consumer : List ℕ) (r : Option RowState) → IsOfConsumers past r → (row : RowState) → option_and_then (unless_owned consumer x) r ≡ Some row
      → cond (is_same_name row.consumer consumer) false (is_consumer past row.consumer) ≡ true
  of-leave consumer None h row e = absurd (false≢true (ap is_some e))
  of-leave consumer (Some o) h row e = by (is_same_name o.consumer consumer) refl e where
    by : (t : Bool) → is_same_name o.consumer consumer ≡ t → cond t None (Some o) ≡ Some row → cond (is_same_name row.consumer consumer) false (is_consumer past row.consumer) ≡ true
    by true i f = absurd (false≢true (ap is_some f))
    by false i f =
        let same = ap (λ p. p.consumer) (same_Some o row f) in
        still (is_same_name row.consumer consumer) false (is_consumer past row.consumer) (ap (λ n. is_same_name n consumer) (sym same) ∙ i) (ap (is_consumer past) (sym same) ∙ h o refl)

  of-claim : (consumer : List ℕ) (rule : ClaimRule) (gone taken : Bool) (r : Option RowState) → IsOfConsumers past r → (row : RowState)
      → option_and_then (λ o. cond gone None (cond taken (Some (claimed_row consumer now rule o)) (Some o))) r ≡ Some row
      → cond (is_same_name row.consumer consumer) true (is_consumer past row.consumer) ≡ true
  of-claim consumer rule gone taken None h row e = absurd (false≢true (ap is_some e))
  of-claim consumer rule true taken (Some o) h row e = absurd (false≢true (ap is_some e))
  of-claim consumer rule false true (Some o) h row e = ap (λ n. cond (is_same_name n consumer) true (is_consumer past n)) (sym (ap (λ p. p.consumer) (same_Some (claimed_row consumer now rule o) row e))) ∙ ap (λ b. cond b true (is_consumer past consumer)) (is_same_name-refl consumer)
  of-claim consumer rule false false (Some o) h row e = still false (is_same_name row.consumer consumer) (is_consumer past row.consumer) refl (h row e)

  of-asked : (ask : GroupAsk) (r : Option RowState) → IsOfConsumers past r → IsOfConsumers (record { now = now; present = present; ask = ask } ∷ past) (row_after_ask ask now present a es x r)
  of-asked (read_new consumer limit noack) r h = λ row e. of-new consumer limit noack (has_id (new_ids limit a present) x) r h row e
  of-asked (read_own consumer limit from) r h = λ row e. of-own consumer (has_id (reread_ids consumer limit from es) x && has_id present x) r h row e
  of-asked (acknowledge ids) r h = λ row e. of-ack (has_id ids x) r h row e
  of-asked (create_consumer consumer) r h = λ row e. still false (is_same_name row.consumer consumer) (is_consumer past row.consumer) refl (h row e)
  of-asked (delete_consumer consumer) r h = λ row e. of-leave consumer r h row e
  of-asked (claim consumer rule ids) r h = λ row e.
      let c = claim_by_ids es present now rule ids in of-claim consumer rule (has_id c.removed x) (has_id c.take x) r h row e
  of-asked (auto_claim consumer rule start limit) r h = λ row e.
      let c = (scan_of es present now rule start limit).claim in of-claim consumer rule (has_id c.removed x) (has_id c.take x) r h row e

of-consumers : (start : Id) (events : List GroupEvent) (x : Id) → IsOfConsumers events (pending_row_at start events x)
of-consumers start [] x = λ row e. absurd (false≢true (ap is_some e))
of-consumers start (event ∷ past) x =
    of-asked past event.now event.present (cursor start past) (rows start past) x event.ask (pending_row_at start past x) (of-consumers start past x)

-- ---- groups, keys, contents

consistent-group : (g : GroupState) (life : GroupLife) → IsGroupOfLife g life → PresentAscends life.events → IsConsistentGroup g
unfolding get
consistent-group g life h asc = record {
  ascends = subst (λ es. Ascends (row_ids es)) (sym h.rows_are) (ascends-among (λ x. pending_row_at life.start life.events x) (delivered_ids life.start life.events) (ascends-delivered life.start life.events asc));
  up_to_cursor = λ x there. up_to-has g.cursor (row_ids g.rows.entries) x up (row-listed g.rows.entries x there);
  of_consumers = λ name x owned. named name x owned (get g.rows x) refl;
} where
  up : AllUpTo g.cursor (row_ids g.rows.entries)
  up = subst (λ es. AllUpTo g.cursor (row_ids es)) (sym h.rows_are) (subst (λ c. AllUpTo c (row_ids (rows life.start life.events))) (sym h.cursor_is) (up_to-rows life.start life.events))

  named : (name : List ℕ) (x : Id) → is_owner (get g.rows x) name ≡ true → (r : Option RowState) → get g.rows x ≡ r → has_name g.consumers name ≡ true
  named name x owned None e = absurd (false≢true (sym (ap (λ r. is_owner r name) e) ∙ owned))
  named name x owned (Some row) e =
      ap (has_name g.consumers) (sym (is_same_name-eq row.consumer name (sym (ap (λ r. is_owner r name) e) ∙ owned)))
      ∙ ap is_some (h.consumers_are row.consumer) ∙ seen-there life.start life.events row.consumer
      ∙ of-consumers life.start life.events x row (sym (row-found life.start life.events x) ∙ ap (λ es. row_at es x) (sym h.rows_are) ∙ e)

consistent-held : (s : Option GroupState) (life : Option GroupLife) → GroupHolds s life → MeetsAscending life → (g : GroupState) → s ≡ Some g → IsConsistentGroup g
consistent-held (Some s) (Some life) h asc g e = subst IsConsistentGroup (same_Some s g e) (consistent-group s life h asc)
consistent-held None life h asc g e = absurd (false≢true (ap is_some e))
consistent-held (Some s) None h asc g e = absurd h

consistent-stream : (changes : List StreamEvent) → IsConsistentStream (stream_of changes)
consistent-stream changes = record { ascends = ascends-present changes; up_to_top = up_to-present changes }

consistent-key : (k : Option KeyState) (stream : Option (List StreamEvent)) (lives : List ℕ → Option GroupLife) → KeyHolds k stream lives → ((g : List ℕ) → MeetsAscending (lives g)) → (key : KeyState) → k ≡ Some key → IsConsistentKey key
consistent-key None stream lives h asc key e = absurd (false≢true (ap is_some e))
consistent-key (Some k) None lives h asc key e = absurd h
consistent-key (Some k) (Some changes) lives h asc key e = subst IsConsistentKey (same_Some k key e) (record {
  stream = subst IsConsistentStream (sym h.0) (consistent-stream changes);
  groups = λ name g f. consistent-held (get k.groups name) (lives name) (h.1 name) (asc name) g f;
})

pub content-consistent : (past : History) (content : Content) → IsContent content past → IsConsistentContent content
content-consistent past content h = λ name key e. consistent-key (get content name) (key_life past name) (λ g. group_life past name g) (h name) (λ g. meets-life past name g) key e
