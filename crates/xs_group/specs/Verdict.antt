-- What a claim does with one id, and the scanned part, id by id.
use Rattle.std.specs.Prelude.{◌≡◌, ℕ, ◌+◌, ◌*◌, Bool, true, false, ◌||◌, ◌&&◌, ◌⊎◌, List, [], ◌∷◌, ◌++◌, nat_le, Option}
use Rattle.std.specs.Prelude.{Some, None, if◌then◌else◌}
use Rattle.xs_stream.specs.declared.id.Id.{Id}
use Rattle.xs_stream.specs.Id.{has_id}
use Rattle.xs_group.specs.declared.claims.Claim.{Claim}
use Rattle.xs_group.specs.declared.claims.Verdict.{Verdict}
use Rattle.xs_group.specs.declared.claims.Verdict.TheVariants.{Passed, Taken, Removed}
use Rattle.xs_group.specs.Claims.{is_idle, claim_by_ids, scan_of, claimed_row}
use Rattle.xs_group.specs.declared.claims.ClaimRule.{ClaimRule}
use Rattle.xs_group.specs.GroupState.{RowState, GroupState, is_same_name}
use Rattle.xs_group.specs.Indexes.{ConsumerIndex, has_pending_id, is_owner, indexed_row}

abbrev pub is_taken_by : Verdict → Bool
is_taken_by Taken = true
is_taken_by _ = false

abbrev pub is_removed_by : Verdict → Bool
is_removed_by Removed = true
is_removed_by _ = false

-- the number of hits that it counts as
abbrev pub hits_of : Verdict → ℕ
hits_of Passed = 0
hits_of _ = 1

-- the verdict on a row, or on an id that has none
abbrev pub verdict_of : Option RowState → Bool → ℕ → ClaimRule → Verdict
verdict_of None present now rule = Passed
verdict_of (Some row) present now rule =
    if present then (if is_idle now rule (Some row) then Taken else Passed) else Removed

abbrev pub with_taken : Verdict → List Id → Id → List Id
with_taken verdict ids id = if is_taken_by verdict then ids ++ id ∷ [] else ids

abbrev pub with_removed : Verdict → List Id → Id → List Id
with_removed verdict ids id = if is_removed_by verdict then ids ++ id ∷ [] else ids

-- the ids that are scanned after this many hits among this many ids
abbrev pub ids_scanned_after : (Id → Bool) → ℕ → ℕ → ℕ → List Id → List Id
ids_scanned_after hit limit hits seen [] = []
ids_scanned_after hit limit hits seen (x ∷ xs) =
    if nat_le limit hits || nat_le (10 * limit) seen then []
    else x ∷ ids_scanned_after hit limit (hits + (if hit x then 1 else 0)) (seen + 1) xs

-- a row after these ids were claimed
abbrev pub row_after_move : List ℕ → ℕ → ClaimRule → List Id → Id → RowState → Option RowState
row_after_move consumer now rule ids x row = if has_id ids x then Some (claimed_row consumer now rule row) else Some row

-- no id is repeated
abbrev pub AreDistinct : List Id → Type 0
AreDistinct [] = Unit {0}
AreDistinct (x ∷ xs) = (has_id xs x ≡ false) × AreDistinct xs

-- a claim that was found by ids
pub record IsFound (group : GroupState) (now : ℕ) (rule : ClaimRule) (claim : Claim) : Type 0 where
  pub present : List Id
  pub ids : List Id
  pub is : claim ≡ claim_by_ids group.rows.entries present now rule ids

-- a claim that was found by a scan
pub record IsScanned (group : GroupState) (now : ℕ) (rule : ClaimRule) (claim : Claim) : Type 0 where
  pub present : List Id
  pub start : Id
  pub limit : ℕ
  pub is : claim ≡ (scan_of group.rows.entries present now rule start limit).claim

-- a claim on the group in its present state
abbrev pub IsClaimOn : GroupState → ℕ → ClaimRule → Claim → Type 0
IsClaimOn group now rule claim = IsFound group now rule claim ⊎ IsScanned group now rule claim

-- each of these ids is among those
abbrev pub AreSomeOf : List Id → List Id → Type 0
AreSomeOf done ids = (x : Id) → has_id done x ≡ true → has_id ids x ≡ true

-- both indexes have the same pairs, except that the index by consumer has these ids of the consumer as well
abbrev pub AreAgreedBut : List (Id × RowState) → ConsumerIndex → List ℕ → List Id → Type 0
AreAgreedBut rows owners name ids =
    (n : List ℕ) → (x : Id) → has_pending_id owners n x
    ≡ (is_owner (indexed_row rows x) n || (is_same_name n name && has_id ids x))
