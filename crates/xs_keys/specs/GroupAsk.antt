-- What a command asks of a group, and the result, from the ids in the stream, the cursor and the rows that it meets.
-- (Redis, XREADGROUP, XACK, XGROUP CREATECONSUMER and DELCONSUMER, XCLAIM, XAUTOCLAIM.)
use Rattle.std.specs.Prelude.{ℕ, Bool, false, not, List, [], Option, Some, None, option_and_then, if◌then◌else◌}
use Rattle.xs_group.specs.declared.claims.Claim.{Claim}
use Rattle.xs_keys.specs.Terms.{option_map_or, list_any, Id, has_id, ClaimRule, RowState, is_same_name, is_any, new_ids, claim_by_ids}
use Rattle.xs_keys.specs.Terms.{scan_of}
use Rattle.xs_keys.specs.Terms.{zero_id}
use Rattle.xs_keys.specs.Terms.{first_row, reread_ids, row_after_reread, row_after_claim, unless_acked, unless_owned}
use Rattle.xs_keys.specs.Event.{Bytes, PendingEntries}

-- what is asked; each but an acknowledgement names a consumer
pub data GroupAsk : Type 0 where
  read_new : Bytes → Option ℕ → Bool → GroupAsk  -- XREADGROUP with `>`: at most so many, and whether with NOACK
  read_own : Bytes → Option ℕ → Id → GroupAsk  -- XREADGROUP with an id: at most so many, past it
  acknowledge : List Id → GroupAsk  -- XACK
  create_consumer : Bytes → GroupAsk  -- XGROUP CREATECONSUMER
  delete_consumer : Bytes → GroupAsk  -- XGROUP DELCONSUMER
  claim : Bytes → ClaimRule → List Id → GroupAsk  -- XCLAIM
  auto_claim : Bytes → ClaimRule → Id → ℕ → GroupAsk  -- XAUTOCLAIM: from a start, at most so many

-- the new ids that an ask delivers, from the ids in the stream and the cursor
abbrev pub new_ids_of_ask : GroupAsk → List Id → Id → List Id
new_ids_of_ask (read_new consumer limit noack) present cursor = new_ids limit cursor present
new_ids_of_ask _ present cursor = []

-- nothing is claimed
abbrev pub no_claim : Claim
no_claim = record { take = []; removed = [] }

-- what an ask claims, from the rows that it meets
abbrev pub claim_of_ask : GroupAsk → ℕ → List Id → PendingEntries → Claim
claim_of_ask (claim consumer rule ids) now present rows = claim_by_ids rows present now rule ids
claim_of_ask (auto_claim consumer rule start limit) now present rows = (scan_of rows present now rule start limit).claim
claim_of_ask _ now present rows = no_claim

-- the cursor that a scan returns, from the rows that it meets: where the next one starts, or 0-0 at their end
abbrev pub scan_end_of_ask : GroupAsk → ℕ → List Id → PendingEntries → Id
scan_end_of_ask (auto_claim consumer rule start limit) now present rows =
    (scan_of rows present now rule start limit).cursor
scan_end_of_ask _ now present rows = zero_id

-- the consumer that reads or claims, or is created or deleted
abbrev pub consumer_of : GroupAsk → Option Bytes
consumer_of (read_new consumer limit noack) = Some consumer
consumer_of (read_own consumer limit from) = Some consumer
consumer_of (acknowledge ids) = None
consumer_of (create_consumer consumer) = Some consumer
consumer_of (delete_consumer consumer) = Some consumer
consumer_of (claim consumer rule ids) = Some consumer
consumer_of (auto_claim consumer rule start limit) = Some consumer

-- the rule of a claim
abbrev pub rule_of : GroupAsk → Option ClaimRule
rule_of (claim consumer rule ids) = Some rule
rule_of (auto_claim consumer rule start limit) = Some rule
rule_of _ = None

-- a read of new entries without NOACK
abbrev pub reads_without_noack : GroupAsk → Bool
reads_without_noack (read_new consumer limit noack) = not noack
reads_without_noack _ = false

-- an acknowledgement that names the id
abbrev pub is_acknowledgement_of : GroupAsk → Id → Bool
is_acknowledgement_of (acknowledge ids) x = has_id ids x
is_acknowledgement_of _ x = false

-- the ask adds the consumer, if it isn't there yet
abbrev pub adds_consumer : GroupAsk → Bytes → Bool
adds_consumer (delete_consumer consumer) name = false
adds_consumer ask name = option_map_or (is_same_name name) (consumer_of ask) false

-- the ask deletes the consumer
abbrev pub deletes_consumer : GroupAsk → Bytes → Bool
deletes_consumer (delete_consumer consumer) name = is_same_name name consumer
deletes_consumer _ name = false

-- whether an ask gives its consumer something, from the rows and the cursor that it meets: it delivers an entry, or
-- claims one
abbrev pub gives : GroupAsk → ℕ → List Id → Id → PendingEntries → Bool
gives (read_new consumer limit noack) now present cursor rows = is_any (new_ids limit cursor present)
gives (read_own consumer limit from) now present cursor rows =
    list_any (has_id present) (reread_ids consumer limit from rows)
gives (claim consumer rule ids) now present cursor rows = is_any (claim_by_ids rows present now rule ids).take
gives (auto_claim consumer rule start limit) now present cursor rows =
    is_any (scan_of rows present now rule start limit).claim.take
gives _ now present cursor rows = false

-- the row of an id after an ask, from the rows and the cursor that it meets
abbrev pub row_after_ask : GroupAsk → ℕ → List Id → Id → PendingEntries → Id → Option RowState → Option RowState
row_after_ask (read_new consumer limit noack) now present cursor rows x row =
    if has_id (new_ids limit cursor present) x then (if noack then None else Some (first_row consumer now)) else row
row_after_ask (read_own consumer limit from) now present cursor rows x row =
    option_and_then (row_after_reread now (reread_ids consumer limit from rows) present x) row
row_after_ask (acknowledge ids) now present cursor rows x row = option_and_then (unless_acked ids x) row
row_after_ask (create_consumer consumer) now present cursor rows x row = row
row_after_ask (delete_consumer consumer) now present cursor rows x row = option_and_then (unless_owned consumer x) row
row_after_ask (claim consumer rule ids) now present cursor rows x row =
    option_and_then (row_after_claim consumer now rule (claim_by_ids rows present now rule ids) x) row
row_after_ask (auto_claim consumer rule start limit) now present cursor rows x row =
    option_and_then (row_after_claim consumer now rule (scan_of rows present now rule start limit).claim x) row
