-- What claims take and what they remove, by looking back. (Redis, XCLAIM and XAUTOCLAIM.)
use Rattle.std.specs.Prelude.{◌≡◌, ◌⊎◌, ℕ, ◌≤◌, ◌+◌, ◌-◌, ◌*◌, Bool, true, false, not, ◌&&◌, ◌||◌, List}
use Rattle.std.specs.Prelude.{map, filter, length, is_some}
use Rattle.xs_stream.specs.Id.{is_same_id}
use Rattle.xs_group.specs.Verdict.{AreDistinct}
use Rattle.xs_keys.specs.Terms.{option_map_or, Id, ClaimRule, is_below, has_id, zero_id}
use Rattle.xs_keys.specs.GroupAsk.{GroupAsk, claim, auto_claim, rule_of}
use Rattle.xs_keys.specs.GroupEvent.{GroupEvent, claim_of_event, scan_end_of_event, rows}
use Rattle.xs_keys.specs.Owner.{is_taken_by_claim, is_removed_by_claim, owner}
use Rattle.xs_keys.specs.TimesAndCounts.{time_of}
use Rattle.xs_keys.specs.Event.{Bytes, PendingEntries}
use Rattle.xs_keys.specs.AtEach.{AtEach}

-- the least idle time of a claim
abbrev pub least_idle : GroupAsk → ℕ
least_idle ask = option_map_or (λ rule. rule.min_idle) (rule_of ask) 0

-- a claim may take an entry that has an owner, is in the stream, and has been idle for as long as the claim requires;
-- the time that it got last counts, which an earlier claim with IDLE may have set back
pub record MayBeTaken (start : Id) (past : List GroupEvent) (event : GroupEvent) (x : Id) : Type 0 where
  pub owned : is_some (owner start past x) ≡ true
  pub present : has_id event.present x ≡ true
  pub idle : least_idle event.ask ≤ event.now - time_of start past x

-- a claim may remove an entry that has an owner and is no longer in the stream
pub record MayBeRemoved (start : Id) (past : List GroupEvent) (event : GroupEvent) (x : Id) : Type 0 where
  pub owned : is_some (owner start past x) ≡ true
  pub gone : has_id event.present x ≡ false

-- an XCLAIM names the entry
abbrev pub is_named_by : GroupAsk → Id → Bool
is_named_by (claim consumer rule ids) x = has_id ids x
is_named_by _ x = false

-- an XAUTOCLAIM starts at the entry or before it
abbrev pub is_from_start : GroupAsk → Id → Bool
is_from_start (auto_claim consumer rule start limit) x = not (is_below x start)
is_from_start _ x = false

-- the cursor passes the entry; 0-0 passes all
abbrev pub passes : Id → Id → Bool
passes cursor x = is_same_id cursor zero_id || is_below x cursor

-- an XAUTOCLAIM that meets these rows scans the entry: it is at its start or above it, and the cursor that it returns
-- passes it
abbrev pub is_scanned : GroupEvent → PendingEntries → Id → Bool
is_scanned event rows x = is_from_start event.ask x && passes (scan_end_of_event event rows) x

-- the COUNT of a scan: the most entries that it takes or removes
abbrev pub scan_limit : GroupAsk → ℕ
scan_limit (auto_claim consumer rule start limit) = limit
scan_limit _ = 0

-- a scan that meets these rows may stop: it takes and removes its COUNT, or it has scanned ten times as many
abbrev pub MayStop : GroupEvent → PendingEntries → Type 0
MayStop event rows =
    (scan_limit event.ask ≤ length (claim_of_event event rows).take + length (claim_of_event event rows).removed)
    ⊎ (10 * scan_limit event.ask ≤ length (filter (λ x. is_scanned event rows x) (map (λ e. e.0) rows)))

-- a scan takes and removes at most its COUNT
abbrev pub IsWithinCount : GroupEvent → PendingEntries → Type 0
IsWithinCount event rows =
    (consumer : Bytes) (rule : ClaimRule) (start : Id) (limit : ℕ) → event.ask ≡ auto_claim consumer rule start limit
    → length (claim_of_event event rows).take + length (claim_of_event event rows).removed ≤ limit

-- the claim asks for the entry: an XCLAIM names it, or an XAUTOCLAIM scans it
abbrev pub is_asked_for : GroupEvent → PendingEntries → Id → Bool
is_asked_for event rows x = is_named_by event.ask x || is_scanned event rows x

-- an entry is taken exactly if the claim asks for it and it may be taken, and removed exactly if the claim asks for it,
-- it is pending, and it has left the stream
pub record ClaimsWhatIsAsked (start : Id) (past : List GroupEvent) (event : GroupEvent) (x : Id) : Type 0 where
  pub takes_idle : is_taken_by_claim start past event x ≡ true → MayBeTaken start past event x
  pub removes_gone : is_removed_by_claim start past event x ≡ true → MayBeRemoved start past event x
  pub takes_asked : is_taken_by_claim start past event x ≡ true → is_asked_for event (rows start past) x ≡ true
  pub removes_asked : is_removed_by_claim start past event x ≡ true → is_asked_for event (rows start past) x ≡ true
  pub takes_all :
      is_asked_for event (rows start past) x ≡ true → MayBeTaken start past event x
      → is_taken_by_claim start past event x ≡ true
  pub removes_all :
      is_asked_for event (rows start past) x ≡ true → MayBeRemoved start past event x
      → is_removed_by_claim start past event x ≡ true

-- a claim takes and removes what it asks for, each entry once; a scan takes and removes at most its COUNT, and goes to
-- the end of the rows or as far as it has to
pub record ClaimIsExact (start : Id) (past : List GroupEvent) (event : GroupEvent) : Type 0 where
  pub as_asked : (x : Id) → ClaimsWhatIsAsked start past event x
  pub takes_once : AreDistinct (claim_of_event event (rows start past)).take
  pub removes_once : AreDistinct (claim_of_event event (rows start past)).removed
  pub at_most : IsWithinCount event (rows start past)
  pub far_enough : (scan_end_of_event event (rows start past) ≡ zero_id) ⊎ MayStop event (rows start past)

-- each claim of a life is exact
abbrev pub ClaimsAreExact : Id → List GroupEvent → Type 0
ClaimsAreExact start events = AtEach events (λ earlier event. ClaimIsExact start earlier event)
