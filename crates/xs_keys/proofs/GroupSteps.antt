-- A group by looking back, and a group event by event, are the same.
use Rattle.std.proofs.Common.{◌≡◌, ℕ, Bool, true, false, cond, List, [], ◌∷◌, ◌++◌, Option, Some, None, option_and_then}
use Rattle.std.proofs.Common.{is_some, sym, ap, subst, ◌∙◌, refl, not, ◌&&◌, ◌||◌}
use Rattle.std.proofs.lemmas.List.{append-nil}
use Rattle.xs_bytes.specs.Each.{each}
use Rattle.xs_bytes.specs.SortedMap.{empty, get, change}
use Rattle.xs_bytes.proofs.SortedMaps.{get-empty}
use Rattle.xs_group.specs.GroupState.{RowState, Rows, GroupState, Consumers, is_same_name, has_name, with_name, is_any, new_ids}
use Rattle.xs_group.specs.GroupState.{last_of}
use Rattle.xs_group.specs.GroupState.{first_row, with_rows, group_after_delivery, reread_ids, row_after_reread}
use Rattle.xs_group.specs.GroupState.{group_after_reread, new_group, group_after_ack, unless_acked, unless_owned}
use Rattle.xs_group.specs.GroupState.{without_consumer}
use Rattle.xs_keys.specs.Terms.{Id, has_id, Ascends, AllAbove, AllUpTo, ClaimRule, row_after_claim, claim_by_ids, scan_of}
use Rattle.xs_keys.specs.Terms.{greatest, list_any}
use Rattle.xs_keys.specs.GroupAsk.{GroupAsk, read_new, read_own, acknowledge, create_consumer, delete_consumer, claim}
use Rattle.xs_keys.specs.GroupAsk.{auto_claim, adds_consumer, deletes_consumer, gives}
use Rattle.xs_keys.specs.GroupEvent.{GroupEvent, new_ids_of_event, delivered_ids, cursor, is_consumer, seen_at, rows_among}
use Rattle.xs_keys.specs.GroupEvent.{pending_row_at, rows}
use Rattle.xs_keys.specs.GroupLife.{GroupLife}
use Rattle.xs_keys.specs.Content.{IsGroupOfLife}
use Rattle.xs_keys.specs.ContentAfter.{group_after}
use Rattle.xs_group.proofs.Agreeing.{get-with_name}
use Rattle.xs_keys.proofs.NameMaps.{get-remove, is_same_name-eq}
use Rattle.xs_keys.proofs.Streams.{greatest-append, up_to-greatest}
use Rattle.xs_keys.proofs.IdLists.{above-new_ids, ascends-new_ids, greatest-last, not_above}
use Rattle.xs_keys.proofs.GroupRows.{row_ids, each_row, each-among, among-append, among-alike, among-known, among-none}
use Rattle.xs_keys.proofs.GroupRows.{among-all, up_to-among, entries-with_rows}

-- ---- the cursor and what was delivered

pub up_to-delivered : (start : Id) (past : List GroupEvent) → AllUpTo (cursor start past) (delivered_ids start past)
up_to-delivered start past = up_to-greatest start (delivered_ids start past)

pub cursor-step : (start : Id) (t : GroupEvent) (past : List GroupEvent) → cursor start (t ∷ past) ≡ greatest (cursor start past) (new_ids_of_event t (cursor start past))
cursor-step start t past = greatest-append start (delivered_ids start past) (new_ids_of_event t (cursor start past))

-- ---- rows

pub up_to-rows : (start : Id) (past : List GroupEvent) → AllUpTo (cursor start past) (row_ids (rows start past))
up_to-rows start past = up_to-among (cursor start past) (λ x. pending_row_at start past x) (delivered_ids start past) (up_to-delivered start past)

-- an event that delivers nothing changes existing rows
rows-changed : (start : Id) (past : List GroupEvent) (f : Id → RowState → Option RowState) (r : Rows) → r.entries ≡ rows start past
    → (change f r).entries ≡ rows_among (λ x. option_and_then (f x) (pending_row_at start past x)) (delivered_ids start past ++ [])
unfolding change
rows-changed start past f r e =
    ap (each f) e ∙ each-among f (λ x. pending_row_at start past x) (delivered_ids start past)
    ∙ ap (rows_among (λ x. option_and_then (f x) (pending_row_at start past x))) (sym (append-nil (delivered_ids start past)))

rows-same : (start : Id) (past : List GroupEvent) (r : Rows) → r.entries ≡ rows start past → r.entries ≡ rows_among (λ x. pending_row_at start past x) (delivered_ids start past ++ [])
rows-same start past r e = e ∙ ap (rows_among (λ x. pending_row_at start past x)) (sym (append-nil (delivered_ids start past)))

module _ (start : Id) (past : List GroupEvent) (consumer : List ℕ) (now : ℕ) (new : List Id) (above : AllAbove (cursor start past) new) (asc : Ascends new) where
  -- a row after a delivery
  row_after : Bool → Id → Option RowState
  row_after noack x = cond (has_id new x) (cond noack None (Some (first_row consumer now))) (pending_row_at start past x)

  -- ids that were there before keep their rows
  old-rows : (noack : Bool) → rows_among (row_after noack) (delivered_ids start past) ≡ rows start past
  unfolding row_after
  old-rows noack =
      among-alike (cursor start past) (row_after noack) (λ x. pending_row_at start past x)
      (λ x up. ap (λ b. cond b (cond noack None (Some (first_row consumer now))) (pending_row_at start past x)) (not_above (cursor start past) x new up above))
      (delivered_ids start past) (up_to-delivered start past)

  -- the new ones get a row, unless with NOACK
  new-rows : (noack : Bool) → rows_among (row_after noack) new ≡ cond noack [] (each_row (first_row consumer now) new)
  unfolding row_after
  new-rows noack =
      among-known new (row_after noack) (λ x. cond noack None (Some (first_row consumer now)))
      (λ x is. ap (λ b. cond b (cond noack None (Some (first_row consumer now))) (pending_row_at start past x)) is) new (λ x e. e)
      ∙ by noack
    where
      by : (t : Bool) → rows_among (λ x. cond t None (Some (first_row consumer now))) new ≡ cond t [] (each_row (first_row consumer now) new)
      by true = among-none new
      by false = among-all (first_row consumer now) new

  rows-delivered : (noack : Bool) (r : Rows) → r.entries ≡ rows start past
      → (cond noack r (with_rows new (first_row consumer now) r)).entries ≡ rows_among (row_after noack) (delivered_ids start past ++ new)
  rows-delivered true r e =
      e ∙ sym (append-nil (rows start past)) ∙ sym (λ i. old-rows true i ++ new-rows true i) ∙ sym (among-append (row_after true) (delivered_ids start past) new)
  rows-delivered false r e =
      entries-with_rows new (first_row consumer now) r (cursor start past) (subst (λ es. AllUpTo (cursor start past) (row_ids es)) (sym e) (up_to-rows start past)) above asc
      ∙ ap (λ es. es ++ each_row (first_row consumer now) new) e
      ∙ sym (λ i. old-rows false i ++ new-rows false i) ∙ sym (among-append (row_after false) (delivered_ids start past) new)

-- ---- consumers

-- a consumer exists if it has a moment
there-if : (deleted added given there : Bool) (seen : Option ℕ) (now : ℕ) → is_some seen ≡ there
    → is_some (cond deleted None (cond (added && (given || not there)) (Some now) seen)) ≡ cond deleted false (cond added true there)
there-if true added given there seen now e = refl
there-if false false given there seen now e = e
there-if false true true there seen now e = refl
there-if false true false true seen now e = e
there-if false true false false seen now e = refl

pub seen-there : (start : Id) (past : List GroupEvent) (name : List ℕ) → is_some (seen_at start past name) ≡ is_consumer past name
seen-there start [] name = refl
seen-there start (t ∷ past) name =
    there-if (deletes_consumer t.ask name) (adds_consumer t.ask name) (gives t.ask t.now t.present (cursor start past) (rows start past)) (is_consumer past name) (seen_at start past name) t.now
    (seen-there start past name)

-- the moment of each consumer after one is added, or given something
put-seen : (consumers : Consumers) (consumer : List ℕ) (now : ℕ) (given : Bool) (q : List ℕ)
    → get (with_name consumers consumer now given) q ≡ cond (is_same_name q consumer && (given || not (has_name consumers q))) (Some now) (get consumers q)
put-seen consumers consumer now given q = get-with_name consumers consumer now given q ∙ by (is_same_name q consumer) refl where
  by : (t : Bool) → is_same_name q consumer ≡ t
      → cond (t && (given || not (has_name consumers consumer))) (Some now) (get consumers q) ≡ cond (t && (given || not (has_name consumers q))) (Some now) (get consumers q)
  by true same = ap (λ name. cond (given || not (has_name consumers name)) (Some now) (get consumers q)) (sym (is_same_name-eq q consumer same))
  by false other = refl

-- ---- one event

module _ (life : GroupLife) (g : GroupState) (h : IsGroupOfLife g life) (now : ℕ) (present : List Id) (asc : Ascends present) where
  event : GroupAsk → GroupEvent
  event ask = record { now = now; present = present; ask = ask }

  lived : GroupAsk → GroupLife
  lived ask = record { start = life.start; events = event ask ∷ life.events }

  joins : (consumer : List ℕ) (given was : Bool) → given ≡ was → (q : List ℕ)
      → get (with_name g.consumers consumer now given) q ≡ cond (is_same_name q consumer && (was || not (is_consumer life.events q))) (Some now) (seen_at life.start life.events q)
  joins consumer given was same q =
      let there : has_name g.consumers q ≡ is_consumer life.events q = ap is_some (h.consumers_are q) ∙ seen-there life.start life.events q in
      put-seen g.consumers consumer now given q ∙ (λ i. cond (is_same_name q consumer && (same i || not (there i))) (Some now) (h.consumers_are q i))

  still : g.cursor ≡ greatest life.start (delivered_ids life.start life.events ++ [])
  still = h.cursor_is ∙ ap (greatest life.start) (sym (append-nil (delivered_ids life.start life.events)))

  changed_rows : (f : Id → RowState → Option RowState) → (change f g.rows).entries ≡ rows_among (λ x. option_and_then (f x) (pending_row_at life.start life.events x)) (delivered_ids life.start life.events ++ [])
  changed_rows f = rows-changed life.start life.events f g.rows h.rows_are

  step-read_new : (consumer : List ℕ) (limit : Option ℕ) (noack : Bool) → IsGroupOfLife (group_after_delivery consumer now limit noack present g) (lived (read_new consumer limit noack))
  unfolding event lived row_after
  step-read_new consumer limit noack =
      let at_cursor = cursor life.start life.events in
      let above = above-new_ids limit at_cursor present in
      let ascends = ascends-new_ids limit at_cursor present asc in
      let new_cursor = ap (λ c. last_of c (new_ids limit c present)) h.cursor_is
      ∙ sym (greatest-last at_cursor (new_ids limit at_cursor present) above ascends)
      ∙ sym (cursor-step life.start (event (read_new consumer limit noack)) life.events) in
      record {
        cursor_is = new_cursor;
        consumers_are = joins consumer _ _ (ap (λ c. is_any (new_ids limit c present)) h.cursor_is);
        rows_are = ap (λ c. (cond noack g.rows (with_rows (new_ids limit c present) (first_row consumer now) g.rows)).entries) h.cursor_is
            ∙ rows-delivered life.start life.events consumer now (new_ids limit at_cursor present) above ascends noack g.rows h.rows_are;
      }

  step-read_own : (consumer : List ℕ) (limit : Option ℕ) (from : Id) → IsGroupOfLife (group_after_reread consumer now limit from present g) (lived (read_own consumer limit from))
  unfolding event lived
  step-read_own consumer limit from = record {
    cursor_is = still;
    consumers_are = joins consumer _ _ (ap (λ es. list_any (has_id present) (reread_ids consumer limit from es)) h.rows_are);
    rows_are = ap (λ es. (change (row_after_reread now (reread_ids consumer limit from es) present) g.rows).entries) h.rows_are
        ∙ changed_rows (row_after_reread now (reread_ids consumer limit from (rows life.start life.events)) present);
  }

  step-ack : (ids : List Id) → IsGroupOfLife (group_after_ack ids g) (lived (acknowledge ids))
  unfolding event lived
  step-ack ids = record { cursor_is = still; consumers_are = h.consumers_are; rows_are = changed_rows (unless_acked ids) }

  step-join : (consumer : List ℕ) → IsGroupOfLife (group_after now present (create_consumer consumer) g) (lived (create_consumer consumer))
  unfolding event lived
  step-join consumer = record { cursor_is = still; consumers_are = joins consumer false false refl; rows_are = rows-same life.start life.events g.rows h.rows_are }

  step-leave : (consumer : List ℕ) → IsGroupOfLife (without_consumer consumer g) (lived (delete_consumer consumer))
  unfolding event lived
  step-leave consumer = record {
    cursor_is = still;
    consumers_are = λ q. get-remove g.consumers consumer q ∙ ap (cond (is_same_name q consumer) None) (h.consumers_are q);
    rows_are = changed_rows (unless_owned consumer);
  }

  step-claim : (consumer : List ℕ) (rule : ClaimRule) (ids : List Id) → IsGroupOfLife (group_after now present (claim consumer rule ids) g) (lived (claim consumer rule ids))
  unfolding event lived
  step-claim consumer rule ids = record {
    cursor_is = still;
    consumers_are = joins consumer _ _ (ap (λ es. is_any (claim_by_ids es present now rule ids).take) h.rows_are);
    rows_are = ap (λ es. (change (row_after_claim consumer now rule (claim_by_ids es present now rule ids)) g.rows).entries) h.rows_are
        ∙ changed_rows (row_after_claim consumer now rule (claim_by_ids (rows life.start life.events) present now rule ids));
  }

  step-auto_claim : (consumer : List ℕ) (rule : ClaimRule) (start : Id) (limit : ℕ) → IsGroupOfLife (group_after now present (auto_claim consumer rule start limit) g) (lived (auto_claim consumer rule start limit))
  unfolding event lived
  step-auto_claim consumer rule start limit = record {
    cursor_is = still;
    consumers_are = joins consumer _ _ (ap (λ es. is_any (scan_of es present now rule start limit).claim.take) h.rows_are);
    rows_are = ap (λ es. (change (row_after_claim consumer now rule (scan_of es present now rule start limit).claim) g.rows).entries) h.rows_are
        ∙ changed_rows (row_after_claim consumer now rule (scan_of (rows life.start life.events) present now rule start limit).claim);
  }

-- the group after one more event is the group changed by the event
pub group-step : (life : GroupLife) (g : GroupState) → IsGroupOfLife g life → (now : ℕ) (present : List Id) → Ascends present → (ask : GroupAsk)
    → IsGroupOfLife (group_after now present ask g) (record { start = life.start; events = record { now = now; present = present; ask = ask } ∷ life.events })
unfolding lived event
group-step life g h now present asc (read_new consumer limit noack) = step-read_new life g h now present asc consumer limit noack
group-step life g h now present asc (read_own consumer limit from) = step-read_own life g h now present asc consumer limit from
group-step life g h now present asc (acknowledge ids) = step-ack life g h now present asc ids
group-step life g h now present asc (create_consumer consumer) = step-join life g h now present asc consumer
group-step life g h now present asc (delete_consumer consumer) = step-leave life g h now present asc consumer
group-step life g h now present asc (claim consumer rule ids) = step-claim life g h now present asc consumer rule ids
group-step life g h now present asc (auto_claim consumer rule start limit) = step-auto_claim life g h now present asc consumer rule start limit

-- a group that begins
pub group-new : (start : Id) → IsGroupOfLife (new_group start) (record { start = start; events = [] })
unfolding empty
group-new start = record { cursor_is = refl; consumers_are = λ q. get-empty _ q; rows_are = refl }
