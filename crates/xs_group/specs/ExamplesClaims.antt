-- Claims by examples, by the Redis pages (XCLAIM, XAUTOCLAIM) and the replies of a real Redis 7.0. A rule that is this
-- server's is marked "own".
use Rattle.std.specs.Prelude.{◌≡◌, ℕ, true, false, List, [], ◌∷◌, codes, Some, None}
use Rattle.xs_stream.specs.declared.id.Id.{Id}
use Rattle.xs_stream.specs.Id.{is_same_id}
use Rattle.xs_stream.specs.Examples.{at}
use Rattle.xs_group.specs.declared.claims.ClaimTime.TheVariants as time
use Rattle.xs_group.specs.GroupState.{RowState}
use Rattle.xs_group.specs.Claims.{is_idle, is_removed, is_taken, without_repeats, claim_by_ids, from_start}
use Rattle.xs_group.specs.declared.claims.ClaimRule.{ClaimRule}
use Rattle.xs_group.specs.Claims.{is_hit, prefixes}
use Rattle.xs_group.specs.Claims.{scanned_part, first_or_zero, scan_of, claim_time, claim_count, claimed_row}
use Rattle.xs_group.specs.Claims.{group_after_claim}
use Rattle.xs_group.specs.ExamplesRead.{pending, three, group, Is}

-- a claim of entries that are idle for this many milliseconds, without options
abbrev pub idle_for : ℕ → ClaimRule
idle_for min_idle = record { min_idle = min_idle; when = time.Now; retry = None; just_id = false }

-- the ids in the stream: the second of the three is deleted
abbrev pub present : List Id
present = at 1 0 ∷ at 3 0 ∷ at 4 0 ∷ []

-- the row of a consumer
abbrev pub row : List ℕ → ℕ → ℕ → RowState
row consumer time count = record { consumer = consumer; time = time; count = count }

abbrev pub twelve : List Id
twelve =
    at 1 0 ∷ at 2 0 ∷ at 3 0 ∷ at 4 0 ∷ at 5 0 ∷ at 6 0 ∷ at 7 0 ∷ at 8 0 ∷ at 9 0 ∷ at 10 0 ∷ at 11 0 ∷ at 12 0 ∷ []

-- XCLAIM; own: an entry that is idle for exactly the least idle time is claimed, each id is treated once, a deleted one
-- is removed whatever its idle time
pub record ByIds : Type 0 where
  pub idle_for_longer : is_idle 151 (idle_for 50) (Some (row (codes "a") 100 1)) ≡ true
  pub idle_for_as_long : is_idle 150 (idle_for 50) (Some (row (codes "a") 100 1)) ≡ true
  pub not_idle_for_so_long : is_idle 149 (idle_for 50) (Some (row (codes "a") 100 1)) ≡ false
  pub any_idle_time : is_idle 100 (idle_for 0) (Some (row (codes "a") 100 1)) ≡ true
  pub not_pending : is_idle 100 (idle_for 0) None ≡ false
  pub deleted_one_goes : is_removed three present (at 2 0) ≡ true
  pub one_in_the_stream_stays : is_removed three present (at 1 0) ≡ false
  pub one_not_pending_cant_go : is_removed three present (at 9 0) ≡ false
  pub one_idle_is_taken : is_taken three present 150 (idle_for 50) (at 1 0) ≡ true
  pub one_deleted_isnt : is_taken three present 150 (idle_for 0) (at 2 0) ≡ false
  pub one_not_idle_isnt : is_taken three present 150 (idle_for 50) (at 3 0) ≡ false
  pub one_not_pending_isnt : is_taken three present 150 (idle_for 0) (at 4 0) ≡ false
  pub each_id_once : without_repeats (at 2 0 ∷ at 1 0 ∷ at 2 0 ∷ at 3 0 ∷ at 1 0 ∷ []) ≡ at 2 0 ∷ at 1 0 ∷ at 3 0 ∷ []
  pub in_the_order_written :
      claim_by_ids three present 150 (idle_for 0) (at 3 0 ∷ at 2 0 ∷ at 9 0 ∷ at 1 0 ∷ at 3 0 ∷ [])
      ≡ record { take = at 3 0 ∷ at 1 0 ∷ []; removed = at 2 0 ∷ [] }
  pub those_that_are_idle :
      claim_by_ids three present 150 (idle_for 50) (at 1 0 ∷ at 2 0 ∷ at 3 0 ∷ [])
      ≡ record { take = at 1 0 ∷ []; removed = at 2 0 ∷ [] }
  pub several_deleted :
      claim_by_ids three [] 150 (idle_for 999) (at 3 0 ∷ at 1 0 ∷ [])
      ≡ record { take = []; removed = at 3 0 ∷ at 1 0 ∷ [] }

-- XAUTOCLAIM; own: COUNT hits or 10 x COUNT ids
pub record ByScan : Type 0 where
  pub from_the_least : from_start (at 0 0) three ≡ at 1 0 ∷ at 2 0 ∷ at 3 0 ∷ []
  pub from_its_start : from_start (at 2 0) three ≡ at 2 0 ∷ at 3 0 ∷ []
  pub past_an_id : from_start (at 2 1) three ≡ at 3 0 ∷ []
  pub past_the_last : from_start (at 4 0) three ≡ []
  pub taken_is_a_hit : is_hit three present 150 (idle_for 50) (at 1 0) ≡ true
  pub removed_is_a_hit : is_hit three present 150 (idle_for 50) (at 2 0) ≡ true
  pub another_is_no_hit : is_hit three present 150 (idle_for 50) (at 3 0) ≡ false
  pub all_beginnings : prefixes (at 1 0 ∷ at 2 0 ∷ []) ≡ [] ∷ (at 1 0 ∷ []) ∷ (at 1 0 ∷ at 2 0 ∷ []) ∷ []
  pub as_many_hits : scanned_part (λ x. true) 2 twelve ≡ at 1 0 ∷ at 2 0 ∷ []
  pub up_to_the_hit : scanned_part (λ x. is_same_id x (at 3 0)) 1 twelve ≡ at 1 0 ∷ at 2 0 ∷ at 3 0 ∷ []
  pub ten_times_as_many_ids :
      scanned_part (λ x. false) 1 twelve
      ≡ at 1 0 ∷ at 2 0 ∷ at 3 0 ∷ at 4 0 ∷ at 5 0 ∷ at 6 0 ∷ at 7 0 ∷ at 8 0 ∷ at 9 0 ∷ at 10 0 ∷ []
  pub to_the_end : scanned_part (λ x. false) 2 twelve ≡ twelve
  pub the_hit_at_the_end : scanned_part (λ x. is_same_id x (at 12 0)) 2 twelve ≡ twelve
  pub next_one : first_or_zero (at 3 0 ∷ at 4 0 ∷ []) ≡ at 3 0
  pub no_next_one : first_or_zero [] ≡ at 0 0
  pub one_taken_and_one_removed :
      scan_of three present 150 (idle_for 50) (at 0 0) 2
      ≡ record { cursor = at 3 0; claim = record { take = at 1 0 ∷ []; removed = at 2 0 ∷ [] } }
  pub one_hit :
      scan_of three present 150 (idle_for 50) (at 0 0) 1
      ≡ record { cursor = at 2 0; claim = record { take = at 1 0 ∷ []; removed = [] } }
  pub goes_on_from_there :
      scan_of three present 150 (idle_for 30) (at 2 0) 100
      ≡ record { cursor = at 0 0; claim = record { take = at 3 0 ∷ []; removed = at 2 0 ∷ [] } }
  pub nothing_from_there :
      scan_of three present 150 (idle_for 0) (at 4 0) 100
      ≡ record { cursor = at 0 0; claim = record { take = []; removed = [] } }
  pub several_taken :
      scan_of three (at 1 0 ∷ at 2 0 ∷ at 3 0 ∷ []) 150 (idle_for 0) (at 0 0) 100
      ≡ record { cursor = at 0 0; claim = record { take = at 1 0 ∷ at 2 0 ∷ at 3 0 ∷ []; removed = [] } }

-- IDLE, TIME, RETRYCOUNT and JUSTID; own: a time is never after now, and IDLE longer than now gives 0
pub record TimesAndCounts : Type 0 where
  pub now : claim_time time.Now 100 ≡ 100
  pub idle : claim_time (time.Idle 30) 100 ≡ 70
  pub idle_since_zero : claim_time (time.Idle 100) 100 ≡ 0
  pub idle_past_now : claim_time (time.Idle 101) 100 ≡ 0
  pub a_time_before_now : claim_time (time.At 99) 100 ≡ 99
  pub the_time_now : claim_time (time.At 100) 100 ≡ 100
  pub a_time_past_now : claim_time (time.At 101) 100 ≡ 100
  pub one_more : claim_count None false 2 ≡ 3
  pub the_same_under_justid : claim_count None true 2 ≡ 2
  pub as_retrycount_says : claim_count (Some 7) false 2 ≡ 7
  pub retrycount_zero : claim_count (Some 0) false 2 ≡ 0
  pub retrycount_before_justid : claim_count (Some 7) true 2 ≡ 7
  pub stops_at_the_greatest : claim_count None false 9223372036854775807 ≡ 9223372036854775807
  pub claimed_now : claimed_row (codes "d") 200 (idle_for 0) (row (codes "a") 100 1) ≡ row (codes "d") 200 2
  pub claimed_by_its_options :
      claimed_row (codes "d") 200 (record { min_idle = 5; when = time.Idle 30; retry = Some 7; just_id = true })
      (row (codes "a") 100 1) ≡ row (codes "d") 170 7
  pub claimed_by_justid :
      claimed_row (codes "d") 200 (record { min_idle = 5; when = time.At 150; retry = None; just_id = true })
      (row (codes "a") 100 4) ≡ row (codes "d") 150 4

pub record Settled : Type 0 where
  pub taken_and_removed :
      Is (group_after_claim (codes "d") 200 (idle_for 0)
      (record { take = at 3 0 ∷ at 1 0 ∷ []; removed = at 2 0 ∷ [] }) group)
      (at 3 0) (codes "a" ∷ codes "b" ∷ codes "c" ∷ codes "d" ∷ [])
      (pending (at 1 0) (codes "d") 200 2 ∷ pending (at 3 0) (codes "d") 200 2 ∷ [])
  pub others_stay :
      Is (group_after_claim (codes "a") 200 (idle_for 0) (record { take = at 2 0 ∷ []; removed = [] }) group) (at 3 0)
      (codes "a" ∷ codes "b" ∷ codes "c" ∷ [])
      (pending (at 1 0) (codes "a") 100 1 ∷ pending (at 2 0) (codes "a") 200 3 ∷ pending (at 3 0) (codes "a") 120 1
      ∷ [])
  pub several_removed :
      Is (group_after_claim (codes "a") 200 (idle_for 0)
      (record { take = []; removed = at 2 0 ∷ at 3 0 ∷ [] }) group) (at 3 0)
      (codes "a" ∷ codes "b" ∷ codes "c" ∷ []) (pending (at 1 0) (codes "a") 100 1 ∷ [])
  pub nothing_claimed :
      Is (group_after_claim (codes "d") 200 (idle_for 0) (record { take = []; removed = [] }) group) (at 3 0)
      (codes "a" ∷ codes "b" ∷ codes "c" ∷ codes "d" ∷ []) three
