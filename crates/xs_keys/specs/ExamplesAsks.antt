-- What the lines of a whole history ask of one group, and of no other, by looking back over it: pending rows and
-- consumers; and what last touched an entry. As a real Redis 7.0 lists it after the same lines (XREADGROUP, XACK,
-- XCLAIM, XAUTOCLAIM, XGROUP CREATECONSUMER and DELCONSUMER, XPENDING). Own: a read of own entries counts, and each
-- accepted read or claim adds its consumer.
-- accepted read or claim brings its consumer.
use Rattle.std.specs.Prelude.{◌≡◌, ℕ, Bool, true, false, List, [], ◌∷◌, codes, Option, Some, None}
use Rattle.xs_stream.specs.declared.id.Id.{Id}
use Rattle.xs_stream.specs.Examples.{at}
use Rattle.xs_group.specs.declared.claims.ClaimTime.TheVariants as time
use Rattle.xs_group.specs.declared.claims.ClaimRule.{ClaimRule}
use Rattle.xs_group.specs.GroupState.{RowState}
use Rattle.xs_group.specs.ExamplesRead.{pending}
use Rattle.xs_keys.specs.GroupAsk.{GroupAsk, read_new, read_own, acknowledge, create_consumer, claim, auto_claim}
use Rattle.xs_keys.specs.GroupEvent.{rows, is_consumer}
use Rattle.xs_keys.specs.GroupAsk.{delete_consumer}
use Rattle.xs_keys.specs.GroupEvent.{is_turn_of}
use Rattle.xs_keys.specs.Owner.{is_settled, may_settle_entry, owner, is_removed_by_claim}
use Rattle.xs_keys.specs.TimesAndCounts.{is_redelivered_by, is_touched_by, time_of, count_of}
use Rattle.xs_keys.specs.ClaimsTake.{least_idle, is_named_by, is_from_start, passes, is_scanned, MayStop}
use Rattle.xs_keys.specs.ExamplesHistory.{of_group, group_and}
use Rattle.xs_keys.specs.ExamplesGroupEvents.{start, event, event_without, read_by_a, noack_by_b, first_by_a}
use Rattle.xs_keys.specs.ExamplesGroupEvents.{claim_by_b}
use Rattle.xs_keys.specs.ExamplesGroupEvents.{any_idle_time}

-- the consumer a has read 2-0 and 3-0 of the group g at 5; another group h of the same key starts at the same id, and
-- so does a group g of the key t; after them these lines
abbrev pub read_and : List (List ℕ) → List (List ℕ)
read_and lines =
    group_and (codes "XREADGROUP GROUP g a STREAMS s >" ∷ codes "XGROUP CREATE s h 1" ∷ codes "XADD t 2-0 f v"
    ∷ codes "XADD t 3-0 f v" ∷ codes "XGROUP CREATE t g 1" ∷ codes "XREADGROUP GROUP g a STREAMS t >" ∷ lines)

abbrev pub rows_behind : List (List ℕ) → Option (List (Id × RowState))
rows_behind lines = of_group (read_and lines) (λ life. rows life.start life.events)

abbrev pub has_behind : List (List ℕ) → List ℕ → Option Bool
has_behind lines name = of_group (read_and lines) (λ life. is_consumer life.events name)

-- both rows as the read left them
abbrev pub both_rows : List (Id × RowState)
both_rows = pending (at 2 0) (codes "a") 5 1 ∷ pending (at 3 0) (codes "a") 5 1 ∷ []

pub record Asked : Type 0 where
  pub read : rows_behind [] ≡ Some both_rows
  pub read_again :
      rows_behind (codes "XREADGROUP GROUP g a STREAMS s 2" ∷ [])
      ≡ Some (pending (at 2 0) (codes "a") 5 1 ∷ pending (at 3 0) (codes "a") 5 2 ∷ [])
  pub read_again_in_another_group : rows_behind (codes "XREADGROUP GROUP h a STREAMS s 0" ∷ []) ≡ Some both_rows
  pub read_again_in_another_key : rows_behind (codes "XREADGROUP GROUP g a STREAMS t 0" ∷ []) ≡ Some both_rows
  pub acknowledged : rows_behind (codes "XACK s g 2" ∷ []) ≡ Some (pending (at 3 0) (codes "a") 5 1 ∷ [])
  pub acknowledged_in_another_group : rows_behind (codes "XACK s h 2" ∷ []) ≡ Some both_rows
  pub acknowledged_in_another_key : rows_behind (codes "XACK t g 2" ∷ []) ≡ Some both_rows
  pub claimed :
      rows_behind (codes "XCLAIM s g b 0 2" ∷ [])
      ≡ Some (pending (at 2 0) (codes "b") 5 2 ∷ pending (at 3 0) (codes "a") 5 1 ∷ [])
  pub claimed_in_another_key : rows_behind (codes "XCLAIM t g b 0 2" ∷ []) ≡ Some both_rows
  pub a_claimer_of_another_group : has_behind (codes "XCLAIM s h b 0 2" ∷ []) (codes "b") ≡ Some false
  pub scanned :
      rows_behind (codes "XAUTOCLAIM s g b 0 2-1" ∷ [])
      ≡ Some (pending (at 2 0) (codes "a") 5 1 ∷ pending (at 3 0) (codes "b") 5 2 ∷ [])
  pub scanned_in_another_key : rows_behind (codes "XAUTOCLAIM t g b 0 0" ∷ []) ≡ Some both_rows
  pub a_scanner_of_another_group : has_behind (codes "XAUTOCLAIM s h b 0 0" ∷ []) (codes "b") ≡ Some false
  pub made : has_behind (codes "XGROUP CREATECONSUMER s g b" ∷ []) (codes "b") ≡ Some true
  pub made_in_another_group : has_behind (codes "XGROUP CREATECONSUMER s h b" ∷ []) (codes "b") ≡ Some false
  pub made_in_another_key : has_behind (codes "XGROUP CREATECONSUMER t g b" ∷ []) (codes "b") ≡ Some false
  pub removed : rows_behind (codes "XGROUP DELCONSUMER s g a" ∷ []) ≡ Some []
  pub a_removed_one : has_behind (codes "XGROUP DELCONSUMER s g a" ∷ []) (codes "a") ≡ Some false
  pub removed_in_another_group : rows_behind (codes "XGROUP DELCONSUMER s h a" ∷ []) ≡ Some both_rows
  pub removed_in_another_key : rows_behind (codes "XGROUP DELCONSUMER t g a" ∷ []) ≡ Some both_rows
  pub reader_of_another_group : has_behind (codes "XREADGROUP GROUP h b STREAMS s >" ∷ []) (codes "b") ≡ Some false
  pub reader_of_another_key : has_behind (codes "XREADGROUP GROUP g b STREAMS t >" ∷ []) (codes "b") ≡ Some false
  pub reader_of_two_keys : has_behind (codes "XREADGROUP GROUP g b STREAMS t s > >" ∷ []) (codes "b") ≡ Some true
  pub deletion_leaves_rows : rows_behind (codes "XDEL s 2" ∷ []) ≡ Some both_rows

-- a reads its own entries at 200, while all are in the stream, and after 2-0 was deleted
abbrev pub reread_by_a : GroupAsk
reread_by_a = read_own (codes "a") None (at 0 0)

abbrev pub claims : ClaimRule → GroupAsk
claims rule = claim (codes "b") rule (at 2 0 ∷ [])

abbrev pub of_an_hour : ClaimRule
of_an_hour = record { min_idle = 3600000; when = time.At 120; retry = Some 7; just_id = false }

abbrev pub ids_alone : ClaimRule
ids_alone = record { min_idle = 0; when = time.Idle 30; retry = None; just_id = true }

abbrev pub now_and_ids_alone : ClaimRule
now_and_ids_alone = record { min_idle = 0; when = time.Now; retry = None; just_id = true }

pub record Touches : Type 0 where
  pub at_its_delivery : is_touched_by start [] read_by_a (at 2 0) ≡ true
  pub not_with_noack : is_touched_by start [] noack_by_b (at 2 0) ≡ false
  pub by_a_claim : is_touched_by start (read_by_a ∷ []) claim_by_b (at 2 0) ≡ true
  pub not_by_a_claim_of_another : is_touched_by start (read_by_a ∷ []) claim_by_b (at 3 0) ≡ false
  pub own_ids_shown : is_redelivered_by start (read_by_a ∷ []) (event 200 reread_by_a) (at 2 0) ≡ true
  pub touched_again : is_touched_by start (read_by_a ∷ []) (event 200 reread_by_a) (at 2 0) ≡ true
  pub not_shown_to_another :
      is_redelivered_by start (read_by_a ∷ []) (event 200 (read_own (codes "b") None (at 0 0))) (at 2 0) ≡ false
  pub not_past_its_count :
      is_redelivered_by start (read_by_a ∷ []) (event 200 (read_own (codes "a") (Some 1) (at 0 0))) (at 3 0) ≡ false
  pub not_a_deleted_one : is_redelivered_by start (read_by_a ∷ []) (event_without 200 reread_by_a) (at 2 0) ≡ false
  pub not_by_an_acknowledgement :
      is_touched_by start (read_by_a ∷ []) (event 200 (acknowledge (at 2 0 ∷ []))) (at 2 0) ≡ false
  pub time_of_delivery : time_of start (event 200 (create_consumer (codes "c")) ∷ read_by_a ∷ []) (at 2 0) ≡ 100
  pub time_of_a_claim : time_of start (claim_by_b ∷ read_by_a ∷ []) (at 2 0) ≡ 150
  pub time_of_one_that_was_not_claimed : time_of start (claim_by_b ∷ read_by_a ∷ []) (at 3 0) ≡ 100
  pub time_of_an_own_read : time_of start (event 200 reread_by_a ∷ read_by_a ∷ []) (at 3 0) ≡ 200
  pub time_asked_for :
      time_of start (event 4000000 (claims of_an_hour) ∷ read_by_a ∷ []) (at 2 0) ≡ 120
  pub idle_time_asked_for : time_of start (event 180 (claims ids_alone) ∷ read_by_a ∷ []) (at 2 0) ≡ 150
  pub time_of_a_scan :
      time_of start (event 180 (auto_claim (codes "b") any_idle_time (at 0 0) 9) ∷ read_by_a ∷ []) (at 3 0) ≡ 180
  pub count_of_a_delivery : count_of start (read_by_a ∷ []) (at 2 0) ≡ 1
  pub count_of_an_own_read : count_of start (event 200 reread_by_a ∷ read_by_a ∷ []) (at 2 0) ≡ 2
  pub count_of_two_own_reads :
      count_of start (event 300 reread_by_a ∷ event 200 reread_by_a ∷ read_by_a ∷ []) (at 2 0) ≡ 3
  pub count_of_a_claim : count_of start (claim_by_b ∷ read_by_a ∷ []) (at 2 0) ≡ 2
  pub count_asked_for : count_of start (event 4000000 (claims of_an_hour) ∷ read_by_a ∷ []) (at 2 0) ≡ 7
  pub count_with_ids_alone : count_of start (event 180 (claims ids_alone) ∷ read_by_a ∷ []) (at 2 0) ≡ 1
  pub count_of_a_scan :
      count_of start (event 180 (auto_claim (codes "b") any_idle_time (at 0 0) 9) ∷ read_by_a ∷ []) (at 2 0) ≡ 2
  pub count_of_one_that_was_not_claimed : count_of start (claim_by_b ∷ read_by_a ∷ []) (at 3 0) ≡ 1
  pub count_of_a_scan_with_ids_alone :
      count_of start (event 180 (auto_claim (codes "b") now_and_ids_alone (at 0 0) 9) ∷ read_by_a ∷ []) (at 2 0) ≡ 1
  pub least_of_a_claim : least_idle (claims of_an_hour) ≡ 3600000
  pub least_of_a_scan : least_idle (auto_claim (codes "b") of_an_hour (at 0 0) 9) ≡ 3600000
  pub named_by_a_claim : is_named_by (claims of_an_hour) (at 2 0) ≡ true
  pub another_isnt_named : is_named_by (claims of_an_hour) (at 3 0) ≡ false
  pub none_is_named_by_a_scan : is_named_by (auto_claim (codes "b") of_an_hour (at 0 0) 9) (at 2 0) ≡ false
  pub from_its_start_on : is_from_start (auto_claim (codes "b") of_an_hour (at 2 0) 9) (at 2 0) ≡ true
  pub not_before_its_start : is_from_start (auto_claim (codes "b") of_an_hour (at 2 0) 9) (at 1 0) ≡ false
  pub no_start_of_a_claim : is_from_start (claims of_an_hour) (at 2 0) ≡ false
  pub below_a_cursor : passes (at 3 0) (at 2 0) ≡ true
  pub not_the_cursor_itself : passes (at 3 0) (at 3 0) ≡ false
  pub below_the_cursor_that_is_past_all : passes (at 0 0) (at 3 0) ≡ true
  pub comes_to_its_first :
      is_scanned (event 150 (auto_claim (codes "b") any_idle_time (at 0 0) 1)) (rows start (read_by_a ∷ [])) (at 2 0)
      ≡ true
  pub not_to_its_cursor :
      is_scanned (event 150 (auto_claim (codes "b") any_idle_time (at 0 0) 1)) (rows start (read_by_a ∷ [])) (at 3 0)
      ≡ false
  pub comes_to_all :
      is_scanned (event 150 (auto_claim (codes "b") any_idle_time (at 0 0) 2)) (rows start (read_by_a ∷ [])) (at 3 0)
      ≡ true
  pub not_to_what_is_below_its_start :
      is_scanned (event 150 (auto_claim (codes "b") any_idle_time (at 3 0) 2)) (rows start (read_by_a ∷ [])) (at 2 0)
      ≡ false
  pub stops_at_its_count :
      MayStop (event 150 (auto_claim (codes "b") any_idle_time (at 0 0) 1)) (rows start (read_by_a ∷ []))
  pub not_sooner :
      MayStop (event 150 (auto_claim (codes "b") any_idle_time (at 0 0) 3)) (rows start (read_by_a ∷ [])) → ⊥
  pub removed_when_deleted :
      is_removed_by_claim start (read_by_a ∷ []) (event_without 200 (claims any_idle_time)) (at 2 0) ≡ true
  pub not_removed_when_there : is_removed_by_claim start (read_by_a ∷ []) claim_by_b (at 2 0) ≡ false
  pub turn_after_an_own_read : is_turn_of start (event 50 reread_by_a ∷ []) read_by_a (at 2 0) ≡ true
  pub turn_after_the_first : is_turn_of start (first_by_a ∷ []) read_by_a (at 2 0) ≡ false
  pub turn_at_the_second :
      is_turn_of start (first_by_a ∷ []) (event 150 (read_new (codes "a") (Some 1) false)) (at 3 0) ≡ true
  pub nothing_settled_at_first : is_settled start [] (at 2 0) ≡ false
  pub not_settled_before_its_delivery :
      may_settle_entry start [] (event 200 (delete_consumer (codes "a"))) (at 2 0) ≡ false
  pub acknowledged_before_its_delivery :
      owner start (read_by_a ∷ event 50 (acknowledge (at 2 0 ∷ [])) ∷ []) (at 2 0) ≡ Some (codes "a")
  pub no_owner_before_its_delivery : owner start (event 200 (create_consumer (codes "c")) ∷ []) (at 2 0) ≡ None
