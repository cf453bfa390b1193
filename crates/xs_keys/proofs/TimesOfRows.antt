-- The time and the count of a row are those of the last event that touched it.
use Rattle.std.proofs.Common.{◌≡◌, ℕ, Bool, true, false, not, cond, ◌&&◌, ◌||◌, List, [], ◌∷◌, Option, Some, None}
use Rattle.std.proofs.Common.{option_and_then, is_some, ◌⊎◌, inl, inr, sym, ap, subst, ◌∙◌, refl}
use Rattle.xs_group.specs.declared.claims.Claim.{Claim}
use Rattle.xs_group.specs.Claims.{claim_by_ids, scan_of, row_after_claim, claimed_row, claim_time, claim_count}
use Rattle.xs_group.specs.declared.claims.ClaimRule.{ClaimRule}
use Rattle.xs_group.specs.GroupState.{RowState, is_same_name, new_ids, first_row, reread_ids, redelivered_row}
use Rattle.xs_group.specs.GroupState.{next_count}
use Rattle.xs_group.specs.GroupState.{unless_acked, unless_owned}
use Rattle.xs_keys.specs.Terms.{Id, has_id}
use Rattle.xs_keys.specs.GroupAsk.{GroupAsk, read_new, read_own, acknowledge, create_consumer, delete_consumer, claim}
use Rattle.xs_keys.specs.GroupAsk.{auto_claim, row_after_ask, new_ids_of_ask, claim_of_ask, reads_without_noack}
use Rattle.xs_keys.specs.GroupEvent.{GroupEvent, cursor, pending_row_at, rows}
use Rattle.xs_keys.specs.TimesAndCounts.{own_ids_shown, time_of_touch, count_of_touch, time_of, count_of}
use Rattle.xs_keys.specs.TimesAndCounts.{AreOfLastTouch}
use Rattle.xs_keys.proofs.Owners.{row-found}

-- the row has that time and that count
Has : Option RowState → ℕ → ℕ → Type 0
Has r time count = (row : RowState) → r ≡ Some row → (row.time ≡ time) × (row.count ≡ count)

none-has : (time count : ℕ) → Has None time count
unfolding Has
none-has time count row e = absurd (subst (λ o. cond (is_some o) ⊥ (Unit {0})) e tt)

some-has : (row : RowState) (time count : ℕ) → row.time ≡ time → row.count ≡ count → Has (Some row) time count
unfolding Has
some-has row time count t n other e =
    let first : other.time ≡ time = cc in
    let second : other.count ≡ count = cc in
    (first, second)

has-some : (row : RowState) (time count : ℕ) → Has (Some row) time count → (row.time ≡ time) × (row.count ≡ count)
unfolding Has
has-some row time count h = h row refl

-- whether an ask touches an id, from the cursor and the rows that it meets
asked_touch : GroupAsk → ℕ → List Id → Id → List (Id × RowState) → Id → Bool
asked_touch ask now present a es x =
    ((reads_without_noack ask && has_id (new_ids_of_ask ask present a) x) || has_id (claim_of_ask ask now present es).take x)
    || (has_id (own_ids_shown ask es) x && has_id present x)

-- time and count after an ask
Touched : GroupAsk → ℕ → List Id → Id → List (Id × RowState) → Id → Option RowState → ℕ → ℕ → Type 0
Touched ask now present a es x r time count =
    let touch = asked_touch ask now present a es x in
    Has (row_after_ask ask now present a es x r) (cond touch (time_of_touch ask now) time) (cond touch (count_of_touch ask count) count)

claim-has : (consumer : List ℕ) (now : ℕ) (rule : ClaimRule) (c : Claim) (x : Id) (r : Option RowState) (time count : ℕ) → Has r time count
    → Has (option_and_then (row_after_claim consumer now rule c x) r) (cond (has_id c.take x) (claim_time rule.when now) time) (cond (has_id c.take x) (claim_count rule.retry rule.just_id count) count)
claim-has consumer now rule c x None time count h = none-has _ _
claim-has consumer now rule c x (Some row) time count h = by (has_id c.removed x) (has_id c.take x) where
  is : (row.time ≡ time) × (row.count ≡ count)
  is = has-some row time count h

  by : (gone taken : Bool) → Has (cond gone None (cond taken (Some (claimed_row consumer now rule row)) (Some row))) (cond taken (claim_time rule.when now) time) (cond taken (claim_count rule.retry rule.just_id count) count)
  by true taken = none-has _ _
  by false true = some-has _ _ _ refl (ap (claim_count rule.retry rule.just_id) is.1)
  by false false = some-has row time count is.0 is.1

same : (f : RowState → Option RowState) (r : Option RowState) (time count : ℕ) → ((row : RowState) → (f row ≡ None) ⊎ (f row ≡ Some row)) → Has r time count → Has (option_and_then f r) time count
same f None time count keeps h = none-has time count
same f (Some row) time count keeps h = by (keeps row) where
  by : (f row ≡ None) ⊎ (f row ≡ Some row) → Has (f row) time count
  by (inl e) = subst (λ o. Has o time count) (sym e) (none-has time count)
  by (inr e) = subst (λ o. Has o time count) (sym e) h

unless : (t : Bool) (row : RowState) → (cond t None (Some row) ≡ None) ⊎ (cond t None (Some row) ≡ Some row)
unless true row = inl refl
unless false row = inr refl

or-false : (t : Bool) → ((false || t) || false) ≡ t
or-false true = refl
or-false false = refl

asked-touched : (ask : GroupAsk) (now : ℕ) (present : List Id) (a : Id) (es : List (Id × RowState)) (x : Id) (r : Option RowState) (time count : ℕ) → Has r time count
    → Touched ask now present a es x r time count
unfolding Touched asked_touch
asked-touched (read_new consumer limit noack) now present a es x r time count h = by noack (has_id (new_ids limit a present) x) where
  by : (noack t : Bool) → Has (cond t (cond noack None (Some (first_row consumer now))) r) (cond (((not noack && t) || false) || false) now time) (cond (((not noack && t) || false) || false) 1 count)
  by true true = none-has _ _
  by true false = h
  by false true = some-has _ _ _ refl refl
  by false false = h
asked-touched (read_own consumer limit from) now present a es x None time count h = none-has _ _
asked-touched (read_own consumer limit from) now present a es x (Some row) time count h = by (has_id (reread_ids consumer limit from es) x && has_id present x) where
  is : (row.time ≡ time) × (row.count ≡ count)
  is = has-some row time count h

  by : (t : Bool) → Has (cond t (Some (redelivered_row now row)) (Some row)) (cond t now time) (cond t (next_count count) count)
  by true = some-has _ _ _ refl (ap next_count is.1)
  by false = h
asked-touched (acknowledge ids) now present a es x r time count h = same (unless_acked ids x) r time count (λ row. unless (has_id ids x) row) h
asked-touched (create_consumer consumer) now present a es x r time count h = h
asked-touched (delete_consumer consumer) now present a es x r time count h = same (unless_owned consumer x) r time count (λ row. unless (is_same_name row.consumer consumer) row) h
asked-touched (claim consumer rule ids) now present a es x r time count h =
    let c = claim_by_ids es present now rule ids in
    subst (λ t. Has (option_and_then (row_after_claim consumer now rule c x) r) (cond t (claim_time rule.when now) time) (cond t (claim_count rule.retry rule.just_id count) count)) (sym (or-false (has_id c.take x))) (claim-has consumer now rule c x r time count h)
asked-touched (auto_claim consumer rule start limit) now present a es x r time count h =
    let c = (scan_of es present now rule start limit).claim in
    subst (λ t. Has (option_and_then (row_after_claim consumer now rule c x) r) (cond t (claim_time rule.when now) time) (cond t (claim_count rule.retry rule.just_id count) count)) (sym (or-false (has_id c.take x))) (claim-has consumer now rule c x r time count h)

held-touched : (start : Id) (events : List GroupEvent) (x : Id) → Has (pending_row_at start events x) (time_of start events x) (count_of start events x)
unfolding Touched asked_touch
held-touched start [] x = none-has _ _
held-touched start (event ∷ past) x =
    asked-touched event.ask event.now event.present (cursor start past) (rows start past) x (pending_row_at start past x) (time_of start past x) (count_of start past x) (held-touched start past x)

pub is-last-touched : (start : Id) (events : List GroupEvent) → AreOfLastTouch start events
unfolding Has
is-last-touched start events x row e = held-touched start events x row (sym (row-found start events x) ∙ e)
