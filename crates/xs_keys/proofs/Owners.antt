-- The owner, by the last assigning event and the later settling ones, is that of the row; and how one event changes it.
use Rattle.std.proofs.Common.{◌≡◌, ℕ, Bool, true, false, not, cond, ◌&&◌, ◌||◌, ◌⊎◌, inl, inr, List, [], ◌∷◌, ◌++◌}
use Rattle.std.proofs.Common.{Option, Some, None, option_and_then, option_map, is_some, sym, ap, ◌∙◌, refl}
use Rattle.std.proofs.lemmas.Option.{same_Some}
use Rattle.std.proofs.lemmas.Bool.{false≢true, or_left, or_right}
use Rattle.xs_stream.specs.Id.{is_below, is_same_id, has_id}
use Rattle.xs_stream.proofs.Order.{is_same_id-eq}
use Rattle.xs_group.specs.declared.claims.Claim.{Claim}
use Rattle.xs_group.specs.Claims.{row_at, is_idle, is_removed, is_taken, claim_among, without_repeats}
use Rattle.xs_group.specs.declared.claims.ClaimRule.{ClaimRule}
use Rattle.xs_group.specs.Claims.{claim_by_ids, from_start, is_hit, scanned_part, scan_of, row_after_claim, claimed_row}
use Rattle.xs_group.specs.GroupState.{RowState, is_same_name, new_ids, first_row, reread_ids, redelivered_row}
use Rattle.xs_group.specs.GroupState.{row_after_reread}
use Rattle.xs_group.specs.GroupState.{unless_acked, unless_owned}
use Rattle.xs_keys.specs.Terms.{with_some, Id}
use Rattle.xs_keys.specs.GroupAsk.{GroupAsk, read_new, read_own, acknowledge, create_consumer, delete_consumer, claim}
use Rattle.xs_keys.specs.GroupAsk.{auto_claim, new_ids_of_ask, claim_of_ask, consumer_of, reads_without_noack}
use Rattle.xs_keys.specs.GroupAsk.{is_acknowledgement_of, deletes_consumer, row_after_ask}
use Rattle.xs_keys.specs.GroupEvent.{GroupEvent, delivered_ids, cursor, new_ids_of_event, rows_among, pending_row_at}
use Rattle.xs_keys.specs.GroupEvent.{rows}
use Rattle.xs_keys.specs.Owner.{is_made_pending_by, is_taken_by_claim, is_assigned_by, last_assignee, is_deletion_of}
use Rattle.xs_keys.specs.Owner.{may_settle_entry, is_settled, owner}
use Rattle.xs_keys.specs.EachOwner.{OwnerAfter, AfterNoOwner, is_settled_in, OwnedUntilSettled, ChangesByClaims}
use Rattle.xs_keys.proofs.Truths.{first_of, second_of, none_or, or_none}
use Rattle.xs_keys.proofs.IdLists.{has_id-append, has_id-where, not_above, not_among}
use Rattle.xs_keys.proofs.GroupSteps.{up_to-delivered}
use Rattle.xs_keys.proofs.Deliveries.{above-after}

-- ---- rows are found where they are stored

find-kept : (q x : Id) (r : Option RowState) (es : List (Id × RowState)) → is_same_id q x ≡ false → row_at (with_some x r es) q ≡ row_at es q
find-kept q x None es e = refl
find-kept q x (Some row) es e = rw e refl

find-among : (row_of : Id → Option RowState) (ids : List Id) (q : Id) → row_at (rows_among row_of ids) q ≡ cond (has_id ids q) (row_of q) None
find-among row_of [] q = refl
find-among row_of (x ∷ xs) q = by (is_same_id q x) refl (row_of x) refl (find-among row_of xs q) where
  redelivered_row : (b : Bool) (r : Option RowState) → r ≡ None → cond b r None ≡ None
  redelivered_row true r e = e
  redelivered_row false r e = refl

  by : (t : Bool) → is_same_id q x ≡ t → (r : Option RowState) → row_of x ≡ r → row_at (rows_among row_of xs) q ≡ cond (has_id xs q) (row_of q) None
      → row_at (with_some x r (rows_among row_of xs)) q ≡ cond (t || has_id xs q) (row_of q) None
  by true e None f rest =
      let none : row_of q ≡ None = ap row_of (is_same_id-eq q x e) ∙ f in
      rest ∙ redelivered_row (has_id xs q) (row_of q) none ∙ sym none
  by true e (Some row) f rest = rw e (sym (ap row_of (is_same_id-eq q x e) ∙ f))
  by false e r f rest = find-kept q x r (rows_among row_of xs) e ∙ rest

-- ---- what has a row was delivered

nothing : (f : RowState → Option RowState) (r : Option RowState) → is_some (option_and_then f r) ≡ true → is_some r ≡ true
nothing f None e = e
nothing f (Some row) e = refl

asked-held : (ask : GroupAsk) (now : ℕ) (present : List Id) (a : Id) (es : List (Id × RowState)) (x : Id) (r : Option RowState)
    → is_some (row_after_ask ask now present a es x r) ≡ true → (has_id (new_ids_of_ask ask present a) x ≡ true) ⊎ (is_some r ≡ true)
asked-held (read_new consumer limit noack) now present a es x r e = by (has_id (new_ids limit a present) x) e where
  by : (t : Bool) → is_some (cond t (cond noack None (Some (first_row consumer now))) r) ≡ true → (t ≡ true) ⊎ (is_some r ≡ true)
  by true e = inl refl
  by false e = inr e
asked-held (read_own consumer limit from) now present a es x r e = inr (nothing (row_after_reread now (reread_ids consumer limit from es) present x) r e)
asked-held (acknowledge ids) now present a es x r e = inr (nothing (unless_acked ids x) r e)
asked-held (create_consumer consumer) now present a es x r e = inr e
asked-held (delete_consumer consumer) now present a es x r e = inr (nothing (unless_owned consumer x) r e)
asked-held (claim consumer rule ids) now present a es x r e = inr (nothing (row_after_claim consumer now rule (claim_by_ids es present now rule ids) x) r e)
asked-held (auto_claim consumer rule start limit) now present a es x r e = inr (nothing (row_after_claim consumer now rule (scan_of es present now rule start limit).claim x) r e)

pub held-delivered : (start : Id) (events : List GroupEvent) (x : Id) → is_some (pending_row_at start events x) ≡ true → has_id (delivered_ids start events) x ≡ true
held-delivered start [] x e = absurd (false≢true e)
held-delivered start (event ∷ past) x e =
    has_id-append (delivered_ids start past) (new_ids_of_event event (cursor start past)) x
    ∙ by (asked-held event.ask event.now event.present (cursor start past) (rows start past) x (pending_row_at start past x) e) (held-delivered start past x)
  where
    by : (has_id (new_ids_of_event event (cursor start past)) x ≡ true) ⊎ (is_some (pending_row_at start past x) ≡ true) → (is_some (pending_row_at start past x) ≡ true → has_id (delivered_ids start past) x ≡ true)
        → (has_id (delivered_ids start past) x || has_id (new_ids_of_event event (cursor start past)) x) ≡ true
    by (inl new) before = or_right _ _ new
    by (inr held) before = or_left _ _ (before held)

-- what was delivered isn't delivered again
pub not-again : (start : Id) (past : List GroupEvent) (event : GroupEvent) (x : Id) → has_id (delivered_ids start past) x ≡ true → has_id (new_ids_of_event event (cursor start past)) x ≡ false
not-again start past event x d = by (is_below (cursor start past) x) refl where
  by : (t : Bool) → is_below (cursor start past) x ≡ t → has_id (new_ids_of_event event (cursor start past)) x ≡ false
  by false up = not_above (cursor start past) x (new_ids_of_event event (cursor start past)) up (above-after start past event)
  by true up = absurd (false≢true (sym (not_among (cursor start past) (delivered_ids start past) x up (up_to-delivered start past)) ∙ d))

-- what is delivered now had no row
pub not-held : (start : Id) (past : List GroupEvent) (event : GroupEvent) (x : Id) → has_id (new_ids_of_event event (cursor start past)) x ≡ true → pending_row_at start past x ≡ None
not-held start past event x e = by (pending_row_at start past x) refl where
  by : (r : Option RowState) → pending_row_at start past x ≡ r → r ≡ None
  by None f = refl
  by (Some row) f = absurd (false≢true (sym (not-again start past event x (held-delivered start past x (ap is_some f))) ∙ e))

unheld : (start : Id) (events : List GroupEvent) (x : Id) → has_id (delivered_ids start events) x ≡ false → (r : Option RowState) → pending_row_at start events x ≡ r → None ≡ r
unheld start events x e None f = refl
unheld start events x e (Some row) f = absurd (false≢true (sym e ∙ held-delivered start events x (ap is_some f)))

pub row-found : (start : Id) (events : List GroupEvent) (x : Id) → row_at (rows start events) x ≡ pending_row_at start events x
row-found start events x = find-among (λ y. pending_row_at start events y) (delivered_ids start events) x ∙ by (has_id (delivered_ids start events) x) refl where
  by : (t : Bool) → has_id (delivered_ids start events) x ≡ t → cond t (pending_row_at start events x) None ≡ pending_row_at start events x
  by true e = refl
  by false e = unheld start events x e (pending_row_at start events x) refl

-- ---- what a claim takes and removes

has_id-claim : (es : List (Id × RowState)) (present : List Id) (now : ℕ) (rule : ClaimRule) (ids : List Id) (x : Id)
    → (has_id (claim_among es present now rule ids).take x ≡ (is_taken es present now rule x && has_id ids x))
    × (has_id (claim_among es present now rule ids).removed x ≡ (is_removed es present x && has_id ids x))
has_id-claim es present now rule ids x = (has_id-where (is_taken es present now rule) ids x, has_id-where (is_removed es present) ids x)

-- a list of claimed ids: taken ones have rows and aren't removed, removed ones have rows
IsOver : List (Id × RowState) → Id → Claim → Type 0
IsOver es x c = has_id c.take x ≡ true → (is_some (row_at es x) ≡ true) × (has_id c.removed x ≡ false)

taken-has : (now : ℕ) (rule : ClaimRule) (r : Option RowState) → is_idle now rule r ≡ true → is_some r ≡ true
taken-has now rule None e = absurd (false≢true e)
taken-has now rule (Some row) e = refl

over : (es : List (Id × RowState)) (present : List Id) (now : ℕ) (rule : ClaimRule) (ids : List Id) (x : Id) → IsOver es x (claim_among es present now rule ids)
unfolding IsOver
over es present now rule ids x e =
    let taken = first_of (is_taken es present now rule x) (has_id ids x) (sym (has_id-claim es present now rule ids x).0 ∙ e) in
    let idle = first_of (is_idle now rule (row_at es x)) (has_id present x) taken in
    let here = second_of (is_idle now rule (row_at es x)) (has_id present x) taken in
    (taken-has now rule (row_at es x) idle, (has_id-claim es present now rule ids x).1 ∙ rw here (gone (is_some (row_at es x)) (has_id ids x)))
  where
    gone : (a b : Bool) → ((a && false) && b) ≡ false
    gone true b = refl
    gone false b = refl

asked-over : (ask : GroupAsk) (now : ℕ) (present : List Id) (es : List (Id × RowState)) (x : Id) → IsOver es x (claim_of_ask ask now present es)
unfolding IsOver
asked-over (read_new consumer limit noack) now present es x = λ e. absurd (false≢true e)
asked-over (read_own consumer limit from) now present es x = λ e. absurd (false≢true e)
asked-over (acknowledge ids) now present es x = λ e. absurd (false≢true e)
asked-over (create_consumer consumer) now present es x = λ e. absurd (false≢true e)
asked-over (delete_consumer consumer) now present es x = λ e. absurd (false≢true e)
asked-over (claim consumer rule ids) now present es x = over es present now rule (without_repeats ids) x
asked-over (auto_claim consumer rule start limit) now present es x = over es present now rule (scanned_part (is_hit es present now rule) limit (from_start start es)) x

pub claimed-over : (ask : GroupAsk) (now : ℕ) (present : List Id) (es : List (Id × RowState)) (x : Id) → has_id (claim_of_ask ask now present es).take x ≡ true
    → (is_some (row_at es x) ≡ true) × (has_id (claim_of_ask ask now present es).removed x ≡ false)
unfolding IsOver
claimed-over ask now present es x e = asked-over ask now present es x e

-- ---- one event

-- the owner of a row
abbrev pub of_row : Option RowState → Option (List ℕ)
of_row r = option_map (λ row. row.consumer) r

owner-by : (assigned may_settle_entry settled : Bool) (asking last : Option (List ℕ))
    → cond (cond assigned false (may_settle_entry || settled)) None (cond assigned asking last) ≡ cond assigned asking (cond may_settle_entry None (cond settled None last))
owner-by true may_settle_entry settled asking last = refl
owner-by false true settled asking last = refl
owner-by false false settled asking last = refl

-- how an event changes the owner
pub owner-step : (start : Id) (past : List GroupEvent) (event : GroupEvent) (x : Id)
    → owner start (event ∷ past) x ≡ cond (is_assigned_by start past event x) (consumer_of event.ask) (cond (may_settle_entry start past event x) None (owner start past x))
owner-step start past event x = owner-by (is_assigned_by start past event x) (may_settle_entry start past event x) (is_settled start past x) (consumer_of event.ask) (last_assignee start past x)

stays-settled : (s : Bool) → s ≡ false → (o : Option (List ℕ)) → cond s None o ≡ o
stays-settled s e o = rw e refl

-- an event that isn't XGROUP DELCONSUMER removes none
removes-none : (event : GroupEvent) → ((name : List ℕ) → deletes_consumer event.ask name ≡ false) → (last : Option (List ℕ)) → is_deletion_of event last ≡ false
removes-none event none None = refl
removes-none event none (Some name) = none name

settles-none : (a b c : Bool) → a ≡ false → b ≡ false → c ≡ false → (a || (b || c)) ≡ false
settles-none a b c p q r = rw (p, q, r) refl

-- ---- the owner is that of the row

module _ (start : Id) (past : List GroupEvent) (now : ℕ) (present : List Id) (x : Id) (ih : owner start past x ≡ of_row (pending_row_at start past x)) where
  t : GroupAsk → GroupEvent
  t ask = record { now = now; present = present; ask = ask }

  Agrees : GroupAsk → Type 0
  Agrees ask = owner start (t ask ∷ past) x ≡ of_row (pending_row_at start (t ask ∷ past) x)

  -- nothing is assigned or settled, and the row's consumer stays
  quiet : (ask : GroupAsk) → is_assigned_by start past (t ask) x ≡ false → may_settle_entry start past (t ask) x ≡ false → of_row (pending_row_at start past x) ≡ of_row (pending_row_at start (t ask ∷ past) x) → Agrees ask
  unfolding Agrees
  quiet ask a s same =
      owner-step start past (t ask) x ∙ (λ i. cond (a i) (consumer_of (t ask).ask) (cond (s i) None (owner start past x))) ∙ ih ∙ same

  agree-new : (consumer : List ℕ) (limit : Option ℕ) (noack : Bool) → Agrees (read_new consumer limit noack)
  unfolding Agrees t
  agree-new consumer limit noack =
      owner-step start past (t (read_new consumer limit noack)) x
      ∙ by noack (has_id (new_ids limit (cursor start past) present) x) refl
      (may_settle_entry start past (t (read_new consumer limit noack)) x)
      (settles-none false (is_deletion_of (t (read_new consumer limit noack)) (last_assignee start past x)) false refl (removes-none (t (read_new consumer limit noack)) (λ _. refl) (last_assignee start past x)) refl)
    where
      by : (quietly d : Bool) → has_id (new_ids limit (cursor start past) present) x ≡ d → (s : Bool) → s ≡ false
          → cond ((not quietly && d) || false) (Some consumer) (cond s None (owner start past x)) ≡ of_row (cond d (cond quietly None (Some (first_row consumer now))) (pending_row_at start past x))
      by true true e s f = stays-settled s f (owner start past x) ∙ ih ∙ ap of_row (not-held start past (t (read_new consumer limit noack)) x e)
      by false true e s f = refl
      by true false e s f = stays-settled s f (owner start past x) ∙ ih
      by false false e s f = stays-settled s f (owner start past x) ∙ ih

  agree-own : (consumer : List ℕ) (limit : Option ℕ) (from : Id) → Agrees (read_own consumer limit from)
  unfolding t
  agree-own consumer limit from =
      quiet (read_own consumer limit from) refl
      (settles-none false (is_deletion_of (t (read_own consumer limit from)) (last_assignee start past x)) false refl (removes-none (t (read_own consumer limit from)) (λ _. refl) (last_assignee start past x)) refl)
      (by (pending_row_at start past x) (has_id (reread_ids consumer limit from (rows start past)) x && has_id present x))
    where
      by : (r : Option RowState) (b : Bool) → of_row r ≡ of_row (option_and_then (λ row. cond b (Some (redelivered_row now row)) (Some row)) r)
      by None b = refl
      by (Some row) true = refl
      by (Some row) false = refl

  agree-join : (consumer : List ℕ) → Agrees (create_consumer consumer)
  unfolding t
  agree-join consumer =
      quiet (create_consumer consumer) refl (settles-none false (is_deletion_of (t (create_consumer consumer)) (last_assignee start past x)) false refl (removes-none (t (create_consumer consumer)) (λ _. refl) (last_assignee start past x)) refl) refl

  agree-ack : (ids : List Id) → Agrees (acknowledge ids)
  unfolding Agrees t
  agree-ack ids =
      owner-step start past (t (acknowledge ids)) x
      ∙ ap (λ b. cond {A = Option (List ℕ)} b None (owner start past x)) (or_none (has_id ids x && is_some (last_assignee start past x)) (is_deletion_of (t (acknowledge ids)) (last_assignee start past x) || false) (settles-none false _ false refl (removes-none (t (acknowledge ids)) (λ _. refl) (last_assignee start past x)) refl))
      ∙ once-assigned (has_id ids x) (last_assignee start past x) (is_settled start past x)
      ∙ ap (cond (has_id ids x) None) ih ∙ by (pending_row_at start past x) (has_id ids x)
    where
      once-assigned : (a : Bool) (last : Option (List ℕ)) (settled : Bool) → cond (a && is_some last) None (cond settled None last) ≡ cond a None (cond settled None last)
      once-assigned true None true = refl
      once-assigned true None false = refl
      once-assigned true (Some name) settled = refl
      once-assigned false last settled = refl

      by : (r : Option RowState) (b : Bool) → cond b None (of_row r) ≡ of_row (option_and_then (λ row. cond b None (Some row)) r)
      by None true = refl
      by None false = refl
      by (Some row) true = refl
      by (Some row) false = refl

  agree-leave : (consumer : List ℕ) → Agrees (delete_consumer consumer)
  unfolding Agrees t
  agree-leave consumer =
      owner-step start past (t (delete_consumer consumer)) x ∙ by (is_settled start past x) (last_assignee start past x) (pending_row_at start past x) ih
    where
      by : (settled : Bool) (last : Option (List ℕ)) (r : Option RowState) → cond settled None last ≡ of_row r
          → cond (is_deletion_of (t (delete_consumer consumer)) last || false) None (cond settled None last) ≡ of_row (option_and_then (unless_owned consumer x) r)
      by true last None e = both (is_deletion_of (t (delete_consumer consumer)) last || false) where
        both : (b : Bool) → cond {A = Option (List ℕ)} b None None ≡ None
        both true = refl
        both false = refl
      by true last (Some row) e = absurd (false≢true (ap is_some e))
      by false None None e = refl
      by false None (Some row) e = absurd (false≢true (ap is_some e))
      by false (Some name) None e = absurd (false≢true (sym (ap is_some e)))
      by false (Some name) (Some row) e =
          ap (λ n. cond (is_same_name n consumer || false) None (Some n)) (same_Some name row.consumer e) ∙ owned (is_same_name row.consumer consumer)
        where
          owned : (b : Bool) → cond (b || false) None (Some row.consumer) ≡ of_row (cond b None (Some row))
          owned true = refl
          owned false = refl

  -- a claim
  agree-claims : (consumer : List ℕ) (rule : ClaimRule) (c : Claim) → IsOver (rows start past) x c → (s : Bool) → s ≡ has_id c.removed x
      → cond (has_id c.take x) (Some consumer) (cond s None (owner start past x)) ≡ of_row (option_and_then (row_after_claim consumer now rule c x) (pending_row_at start past x))
  unfolding IsOver
  agree-claims consumer rule c over_rows s e = ap (λ b. cond (has_id c.take x) (Some consumer) (cond b None (owner start past x))) e ∙ ap (λ o. cond (has_id c.take x) (Some consumer) (cond (has_id c.removed x) None o)) ih
      ∙ by (pending_row_at start past x) (has_id c.removed x) (has_id c.take x) (λ f. let is = over_rows f in (ap is_some (sym (row-found start past x)) ∙ is.0, is.1))
    where
      by : (r : Option RowState) (gone taken : Bool) → (taken ≡ true → (is_some r ≡ true) × (gone ≡ false))
          → cond taken (Some consumer) (cond gone None (of_row r)) ≡ of_row (option_and_then (λ row. cond gone None (cond taken (Some (claimed_row consumer now rule row)) (Some row))) r)
      by None gone true h = absurd (false≢true (h refl).0)
      by None true false h = refl
      by None false false h = refl
      by (Some row) true true h = absurd (false≢true (sym (h refl).1))
      by (Some row) false true h = refl
      by (Some row) true false h = refl
      by (Some row) false false h = refl

  agree-claim : (consumer : List ℕ) (rule : ClaimRule) (ids : List Id) → Agrees (claim consumer rule ids)
  unfolding Agrees t
  agree-claim consumer rule ids =
      owner-step start past (t (claim consumer rule ids)) x
      ∙ agree-claims consumer rule (claim_by_ids (rows start past) present now rule ids) (asked-over (claim consumer rule ids) now present (rows start past) x)
      (may_settle_entry start past (t (claim consumer rule ids)) x) (none_or (is_deletion_of (t (claim consumer rule ids)) (last_assignee start past x)) _ (removes-none (t (claim consumer rule ids)) (λ _. refl) (last_assignee start past x)))

  agree-auto_claim : (consumer : List ℕ) (rule : ClaimRule) (from : Id) (limit : ℕ) → Agrees (auto_claim consumer rule from limit)
  unfolding Agrees t
  agree-auto_claim consumer rule from limit =
      owner-step start past (t (auto_claim consumer rule from limit)) x
      ∙ agree-claims consumer rule (scan_of (rows start past) present now rule from limit).claim (asked-over (auto_claim consumer rule from limit) now present (rows start past) x)
      (may_settle_entry start past (t (auto_claim consumer rule from limit)) x) (none_or (is_deletion_of (t (auto_claim consumer rule from limit)) (last_assignee start past x)) _ (removes-none (t (auto_claim consumer rule from limit)) (λ _. refl) (last_assignee start past x)))

agree-asked : (start : Id) (past : List GroupEvent) (now : ℕ) (present : List Id) (ask : GroupAsk) (x : Id) → owner start past x ≡ of_row (pending_row_at start past x)
    → owner start (record { now = now; present = present; ask = ask } ∷ past) x ≡ of_row (pending_row_at start (record { now = now; present = present; ask = ask } ∷ past) x)
unfolding Agrees t
agree-asked start past now present (read_new consumer limit noack) x ih = agree-new start past now present x ih consumer limit noack
agree-asked start past now present (read_own consumer limit from) x ih = agree-own start past now present x ih consumer limit from
agree-asked start past now present (acknowledge ids) x ih = agree-ack start past now present x ih ids
agree-asked start past now present (create_consumer consumer) x ih = agree-join start past now present x ih consumer
agree-asked start past now present (delete_consumer consumer) x ih = agree-leave start past now present x ih consumer
agree-asked start past now present (claim consumer rule ids) x ih = agree-claim start past now present x ih consumer rule ids
agree-asked start past now present (auto_claim consumer rule from limit) x ih = agree-auto_claim start past now present x ih consumer rule from limit

-- the owner by looking back is that of the row
pub owner-row : (start : Id) (events : List GroupEvent) (x : Id) → owner start events x ≡ of_row (pending_row_at start events x)
owner-row start [] x = refl
owner-row start (event ∷ past) x = agree-asked start past event.now event.present event.ask x (owner-row start past x)

-- ---- the owner changes only by a claim

-- a claim that takes an id settles nothing
pub taken-unsettled : (ask : GroupAsk) (now : ℕ) (present : List Id) (es : List (Id × RowState)) (x : Id) (last : Option (List ℕ)) → has_id (claim_of_ask ask now present es).take x ≡ true
    → ((is_acknowledgement_of ask x && is_some last) || (is_deletion_of (record { now = now; present = present; ask = ask }) last || has_id (claim_of_ask ask now present es).removed x)) ≡ false
taken-unsettled (read_new consumer limit noack) now present es x last e = absurd (false≢true e)
taken-unsettled (read_own consumer limit from) now present es x last e = absurd (false≢true e)
taken-unsettled (acknowledge ids) now present es x last e = absurd (false≢true e)
taken-unsettled (create_consumer consumer) now present es x last e = absurd (false≢true e)
taken-unsettled (delete_consumer consumer) now present es x last e = absurd (false≢true e)
taken-unsettled (claim consumer rule ids) now present es x last e =
    settles-none false _ _ refl (removes-none (record { now = now; present = present; ask = claim consumer rule ids }) (λ _. refl) last) (claimed-over (claim consumer rule ids) now present es x e).1
taken-unsettled (auto_claim consumer rule from limit) now present es x last e =
    settles-none false _ _ refl (removes-none (record { now = now; present = present; ask = auto_claim consumer rule from limit }) (λ _. refl) last) (claimed-over (auto_claim consumer rule from limit) now present es x e).1

-- what is taken has an owner
pub taken-owned : (start : Id) (past : List GroupEvent) (event : GroupEvent) (x : Id) → is_taken_by_claim start past event x ≡ true → is_some (owner start past x) ≡ true
taken-owned start past event x e =
    ap is_some (owner-row start past x) ∙ some-row (pending_row_at start past x)
    ∙ ap is_some (sym (row-found start past x)) ∙ (claimed-over event.ask event.now event.present (rows start past) x e).0
  where
    some-row : (r : Option RowState) → is_some (of_row r) ≡ is_some r
    some-row None = refl
    some-row (Some row) = refl

-- what has an owner was delivered
pub owned-delivered : (start : Id) (past : List GroupEvent) (x : Id) → is_some (owner start past x) ≡ true → has_id (delivered_ids start past) x ≡ true
owned-delivered start past x e = held-delivered start past x (some-row (pending_row_at start past x) (ap is_some (sym (owner-row start past x)) ∙ e)) where
  some-row : (r : Option RowState) → is_some (of_row r) ≡ true → is_some r ≡ true
  some-row None f = f
  some-row (Some row) f = refl

-- what was delivered is assigned again only by claims
pub assigned-again : (start : Id) (past : List GroupEvent) (event : GroupEvent) (x : Id) → has_id (delivered_ids start past) x ≡ true → is_assigned_by start past event x ≡ is_taken_by_claim start past event x
assigned-again start past event x d = ap (λ b. (reads_without_noack event.ask && b) || is_taken_by_claim start past event x) (not-again start past event x d) ∙ by (reads_without_noack event.ask) where
  by : (k : Bool) → ((k && false) || is_taken_by_claim start past event x) ≡ is_taken_by_claim start past event x
  by true = refl
  by false = refl

pub owner-after : (start : Id) (past : List GroupEvent) (event : GroupEvent) (x : Id) (name : List ℕ) → owner start past x ≡ Some name → OwnerAfter start past event x name
owner-after start past event x name e = by (is_taken_by_claim start past event x) refl (may_settle_entry start past event x) refl where
  step : owner start (event ∷ past) x ≡ cond (is_taken_by_claim start past event x) (consumer_of event.ask) (cond (may_settle_entry start past event x) None (owner start past x))
  step = owner-step start past event x ∙ ap (λ b. cond b (consumer_of event.ask) (cond (may_settle_entry start past event x) None (owner start past x))) (assigned-again start past event x (owned-delivered start past x (ap is_some e)))

  by : (taken : Bool) → is_taken_by_claim start past event x ≡ taken → (settled : Bool) → may_settle_entry start past event x ≡ settled → OwnerAfter start past event x name
  by true t settled s = inr (inr (t, step ∙ ap (λ b. cond b (consumer_of event.ask) (cond (may_settle_entry start past event x) None (owner start past x))) t))
  by false t true s = inr (inl (s, step ∙ (λ i. cond (t i) (consumer_of event.ask) (cond (s i) None (owner start past x)))))
  by false t false s = inl (step ∙ (λ i. cond (t i) (consumer_of event.ask) (cond (s i) None (owner start past x))) ∙ e)

pub no-owner-after : (start : Id) (past : List GroupEvent) (event : GroupEvent) (x : Id) → owner start past x ≡ None → AfterNoOwner start past event x
no-owner-after start past event x e = by (is_made_pending_by start past event x) refl (is_taken_by_claim start past event x) refl where
  none : (s : Bool) → cond s None (owner start past x) ≡ None
  none true = refl
  none false = e

  by : (new : Bool) → is_made_pending_by start past event x ≡ new → (taken : Bool) → is_taken_by_claim start past event x ≡ taken → AfterNoOwner start past event x
  by true d taken t = inr (d, owner-step start past event x ∙ ap (λ b. cond (b || is_taken_by_claim start past event x) (consumer_of event.ask) (cond (may_settle_entry start past event x) None (owner start past x))) d)
  by false d true t = absurd (false≢true (sym (ap is_some e) ∙ taken-owned start past event x t))
  by false d false t =
      inl (owner-step start past event x ∙ (λ i. cond (d i || t i) (consumer_of event.ask) (cond (may_settle_entry start past event x) None (owner start past x))) ∙ none (may_settle_entry start past event x))

-- ---- one owner until settled

pub pending-named : (ask : GroupAsk) → reads_without_noack ask ≡ true → is_some (consumer_of ask) ≡ true
pending-named (read_new consumer limit noack) e = refl
pending-named (read_own consumer limit from) e = refl
pending-named (acknowledge ids) e = e
pending-named (create_consumer consumer) e = refl
pending-named (delete_consumer consumer) e = refl
pending-named (claim consumer rule ids) e = refl
pending-named (auto_claim consumer rule from limit) e = refl

pub claim-named : (ask : GroupAsk) (now : ℕ) (present : List Id) (es : List (Id × RowState)) (x : Id) → has_id (claim_of_ask ask now present es).take x ≡ true → is_some (consumer_of ask) ≡ true
claim-named (read_new consumer limit noack) now present es x e = refl
claim-named (read_own consumer limit from) now present es x e = refl
claim-named (acknowledge ids) now present es x e = absurd (false≢true e)
claim-named (create_consumer consumer) now present es x e = refl
claim-named (delete_consumer consumer) now present es x e = refl
claim-named (claim consumer rule ids) now present es x e = refl
claim-named (auto_claim consumer rule from limit) now present es x e = refl

-- what was delivered stays delivered
still-delivered : (start : Id) (later : List GroupEvent) (before : List GroupEvent) (x : Id) → has_id (delivered_ids start before) x ≡ true → has_id (delivered_ids start (later ++ before)) x ≡ true
still-delivered start [] before x d = d
still-delivered start (u ∷ later) before x d =
    has_id-append (delivered_ids start (later ++ before)) (new_ids_of_event u (cursor start (later ++ before))) x ∙ or_left _ _ (still-delivered start later before x d)

delivered-now : (start : Id) (past : List GroupEvent) (event : GroupEvent) (x : Id) → is_made_pending_by start past event x ≡ true → has_id (delivered_ids start (event ∷ past)) x ≡ true
delivered-now start past event x e =
    has_id-append (delivered_ids start past) (new_ids_of_event event (cursor start past)) x ∙ or_right _ _ (second_of (reads_without_noack event.ask) _ e)

pub until-settled : (start : Id) (later : List GroupEvent) (event : GroupEvent) (earlier : List GroupEvent) (x : Id) → is_made_pending_by start earlier event x ≡ true
    → is_some (owner start (later ++ event ∷ earlier) x) ≡ not (is_settled_in start later (event ∷ earlier) x)
until-settled start [] event earlier x e =
    ap is_some (owner-step start earlier event x ∙ ap (λ b. cond (b || is_taken_by_claim start earlier event x) (consumer_of event.ask) (cond (may_settle_entry start earlier event x) None (owner start earlier x))) e)
    ∙ pending-named event.ask (first_of (reads_without_noack event.ask) _ e)
until-settled start (u ∷ later) event earlier x e = by (is_taken_by_claim start past u x) refl (until-settled start later event earlier x e) where
  past : List GroupEvent
  past = later ++ event ∷ earlier

  step : owner start (u ∷ past) x ≡ cond (is_taken_by_claim start past u x) (consumer_of u.ask) (cond (may_settle_entry start past u x) None (owner start past x))
  step = owner-step start past u x
      ∙ ap (λ b. cond b (consumer_of u.ask) (cond (may_settle_entry start past u x) None (owner start past x))) (assigned-again start past u x (still-delivered start later (event ∷ earlier) x (delivered-now start earlier event x e)))

  kept_or_not : (s : Bool) (o : Option (List ℕ)) (b : Bool) → is_some o ≡ not b → is_some (cond s None o) ≡ not (s || b)
  kept_or_not true o b h = refl
  kept_or_not false o b h = h

  unsettled : (b : Bool) → true ≡ not b → b ≡ false
  unsettled true h = h
  unsettled false h = refl

  by : (taken : Bool) → is_taken_by_claim start past u x ≡ taken → is_some (owner start past x) ≡ not (is_settled_in start later (event ∷ earlier) x)
      → is_some (owner start (u ∷ past) x) ≡ not (may_settle_entry start past u x || is_settled_in start later (event ∷ earlier) x)
  by true t ih =
      let free = taken-unsettled u.ask u.now u.present (rows start past) x (last_assignee start past x) t in
      let none = unsettled (is_settled_in start later (event ∷ earlier) x) (sym (taken-owned start past u x t) ∙ ih) in
      ap is_some (step ∙ ap (λ b. cond b (consumer_of u.ask) (cond (may_settle_entry start past u x) None (owner start past x))) t)
      ∙ claim-named u.ask u.now u.present (rows start past) x t ∙ sym (λ i. not (free i || none i))
  by false t ih =
      ap is_some (step ∙ ap (λ b. cond b (consumer_of u.ask) (cond (may_settle_entry start past u x) None (owner start past x))) t)
      ∙ kept_or_not (may_settle_entry start past u x) (owner start past x) (is_settled_in start later (event ∷ earlier) x) ih

pub owned-until-settled : (start : Id) (events : List GroupEvent) → OwnedUntilSettled start events
owned-until-settled start events = λ later event earlier x e d.
    ap (λ ts. is_some (owner start ts x)) e ∙ until-settled start later event earlier x d

-- what is delivered or taken belongs to the consumer that asked
assigned-owner : (start : Id) (past : List GroupEvent) (event : GroupEvent) (x : Id) → is_assigned_by start past event x ≡ true → owner start (event ∷ past) x ≡ consumer_of event.ask
assigned-owner start past event x h = λ i. cond (cond (h i) false (may_settle_entry start past event x || is_settled start past x)) None (cond (h i) (consumer_of event.ask) (last_assignee start past x))

pub changes-by-claims : (start : Id) (events : List GroupEvent) → ChangesByClaims start events
changes-by-claims start events = λ later event earlier e x. (λ name o. owner-after start earlier event x name o, λ o. no-owner-after start earlier event x o, λ h. assigned-owner start earlier event x h)
