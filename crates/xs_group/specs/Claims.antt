-- Claims: which pending entries move to another consumer. (Redis, XCLAIM and XAUTOCLAIM.)
use Rattle.std.specs.Prelude.{ℕ, ◌*◌, ◌-◌, Bool, false, not, ◌&&◌, ◌||◌, List, [], ◌∷◌, map, filter, length, drop}
use Rattle.std.specs.Prelude.{nat_le, Option, Some, None, is_some, if◌then◌else◌}
use Rattle.std.specs.FinMap.Entries.{find}
use Rattle.xs_bytes.specs.SortedMap.{change}
use Rattle.xs_stream.specs.declared.id.Id.{Id}
use Rattle.xs_stream.specs.Id.{id_cmp, is_below, is_same_id, has_id, zero_id}
use Rattle.xs_group.specs.declared.claims.ClaimRule.{ClaimRule}
use Rattle.xs_group.specs.declared.claims.ClaimTime.{ClaimTime}
use Rattle.xs_group.specs.declared.claims.ClaimTime.TheVariants.{Now, Idle, At}
use Rattle.xs_group.specs.declared.claims.Claim.{Claim}
use Rattle.xs_group.specs.declared.claims.Scan.{Scan}
use Rattle.xs_group.specs.GroupState.{RowState, GroupState, with_name, is_any, idle_time, next_count}

-- the row of an id
abbrev pub row_at : List (Id × RowState) → Id → Option RowState
row_at rows x = find id_cmp x rows

-- a row that is idle for the least idle time or longer
abbrev pub is_idle : ℕ → ClaimRule → Option RowState → Bool
is_idle now rule None = false
is_idle now rule (Some row) = nat_le rule.min_idle (idle_time now row.time)

-- a pending entry that is no longer in the stream is removed, whatever its idle time
abbrev pub is_removed : List (Id × RowState) → List Id → Id → Bool
is_removed rows present x = is_some (row_at rows x) && not (has_id present x)

-- a pending entry in the stream is claimed if it is idle enough
abbrev pub is_taken : List (Id × RowState) → List Id → ℕ → ClaimRule → Id → Bool
is_taken rows present now rule x = is_idle now rule (row_at rows x) && has_id present x

-- the result of a claim of these ids
abbrev pub claim_among : List (Id × RowState) → List Id → ℕ → ClaimRule → List Id → Claim
claim_among rows present now rule ids =
    record { take = filter (is_taken rows present now rule) ids; removed = filter (is_removed rows present) ids }

-- each id at its first place
abbrev pub without_repeats : List Id → List Id
without_repeats [] = []
without_repeats (x ∷ xs) = x ∷ filter (λ y. not (is_same_id y x)) (without_repeats xs)

-- XCLAIM
abbrev pub claim_by_ids : List (Id × RowState) → List Id → ℕ → ClaimRule → List Id → Claim
claim_by_ids rows present now rule ids = claim_among rows present now rule (without_repeats ids)

-- the pending ids from a start upwards
abbrev pub from_start : Id → List (Id × RowState) → List Id
from_start start rows = filter (λ x. not (is_below x start)) (map (λ e. e.0) rows)

-- an id that a scan claims or removes
abbrev pub is_hit : List (Id × RowState) → List Id → ℕ → ClaimRule → Id → Bool
is_hit rows present now rule x = is_removed rows present x || is_taken rows present now rule x

-- as many hits as asked for, or ten times as many ids
abbrev pub is_enough : (Id → Bool) → ℕ → List Id → Bool
is_enough hit limit ids = nat_le limit (length (filter hit ids)) || nat_le (10 * limit) (length ids)

-- all prefixes of a list, the shortest first
abbrev pub prefixes : List Id → List (List Id)
prefixes [] = [] ∷ []
prefixes (x ∷ xs) = [] ∷ map (λ ids. x ∷ ids) (prefixes xs)

-- the first that passes a test, or else this one
abbrev pub first_where : (List Id → Bool) → List Id → List (List Id) → List Id
first_where test other [] = other
first_where test other (ids ∷ more) = if test ids then ids else first_where test other more

-- the scanned part: the shortest prefix that is enough, else the whole list
abbrev pub scanned_part : (Id → Bool) → ℕ → List Id → List Id
scanned_part hit limit ids = first_where (is_enough hit limit) ids (prefixes ids)

-- the first of these, or 0-0
abbrev pub first_or_zero : List Id → Id
first_or_zero [] = zero_id
first_or_zero (x ∷ xs) = x

-- XAUTOCLAIM: the claim over the scanned part, and the least pending id past it
abbrev pub scan_of : List (Id × RowState) → List Id → ℕ → ClaimRule → Id → ℕ → Scan
scan_of rows present now rule start limit =
    let ids = from_start start rows in
    let part = scanned_part (is_hit rows present now rule) limit ids in
    record { cursor = first_or_zero (drop (length part) ids); claim = claim_among rows present now rule part }

-- the time that a claimed row gets; a time after now is now
abbrev pub claim_time : ClaimTime → ℕ → ℕ
claim_time Now now = now
claim_time (Idle n) now = now - n
claim_time (At time) now = if nat_le time now then time else now

-- its count: that of RETRYCOUNT, else the same under JUSTID, else one more
abbrev pub claim_count : Option ℕ → Bool → ℕ → ℕ
claim_count (Some retry) just_id count = retry
claim_count None just_id count = if just_id then count else next_count count

abbrev pub claimed_row : List ℕ → ℕ → ClaimRule → RowState → RowState
claimed_row consumer now rule row =
    let count = claim_count rule.retry rule.just_id row.count in
    record { consumer = consumer; time = claim_time rule.when now; count = count }

-- a row after a claim; None if it is removed
abbrev pub row_after_claim : List ℕ → ℕ → ClaimRule → Claim → Id → RowState → Option RowState
row_after_claim consumer now rule claim x row =
    if has_id claim.removed x then None
    else (if has_id claim.take x then Some (claimed_row consumer now rule row) else Some row)

-- a group after a claim: it has the consumer, removed rows are gone, and claimed rows are the consumer's
abbrev pub group_after_claim : List ℕ → ℕ → ClaimRule → Claim → GroupState → GroupState
group_after_claim consumer now rule claim group =
    let rows = change (row_after_claim consumer now rule claim) group.rows in
    record group { consumers = with_name group.consumers consumer now (is_any claim.take); rows = rows }
