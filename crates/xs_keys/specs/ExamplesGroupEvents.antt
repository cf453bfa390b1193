-- A group by looking back over its events, by examples: who has an entry, what is pending, and whose turn it was. As a
-- real Redis 7.0 lists it after the same commands (XREADGROUP, XACK, XCLAIM, XAUTOCLAIM, XGROUP DELCONSUMER, XPENDING).
-- Own: a read of own entries counts, and each read or claim adds its consumer.
use Rattle.std.specs.Prelude.{◌≡◌, ℕ, true, false, List, [], ◌∷◌, codes, Some, None}
use Rattle.xs_stream.specs.declared.id.Id.{Id}
use Rattle.xs_stream.specs.Examples.{at}
use Rattle.xs_group.specs.declared.claims.ClaimTime.TheVariants as time
use Rattle.xs_group.specs.declared.claims.ClaimRule.{ClaimRule}
use Rattle.xs_group.specs.ExamplesRead.{pending}
use Rattle.xs_keys.specs.GroupAsk.{GroupAsk, read_new, read_own, acknowledge, create_consumer, delete_consumer, claim}
use Rattle.xs_keys.specs.GroupAsk.{auto_claim}
use Rattle.xs_keys.specs.GroupEvent.{GroupEvent}
use Rattle.xs_keys.specs.GroupEvent.{delivered_ids, cursor}
use Rattle.xs_keys.specs.GroupEvent.{is_turn_of, is_consumer, rows, seen_at}
use Rattle.xs_keys.specs.Owner.{is_made_pending_by, is_taken_by_claim, may_settle_entry}
use Rattle.xs_keys.specs.Owner.{is_assigned_by, last_assignee, is_settled, owner}
use Rattle.xs_keys.specs.GroupAsk.{consumer_of}
use Rattle.xs_keys.specs.EachOwner.{is_settled_in}

-- the group starts at 1-0
abbrev pub start : Id
start = at 1 0

-- an event at a moment, over these ids in the stream
abbrev pub event_over : List Id → ℕ → GroupAsk → GroupEvent
event_over present now ask = record { now = now; present = present; ask = ask }

-- an event while 1-0, 2-0 and 3-0 are in the stream
abbrev pub event : ℕ → GroupAsk → GroupEvent
event now ask = event_over (at 1 0 ∷ at 2 0 ∷ at 3 0 ∷ []) now ask

-- an event after 2-0 was deleted
abbrev pub event_without : ℕ → GroupAsk → GroupEvent
event_without now ask = event_over (at 1 0 ∷ at 3 0 ∷ []) now ask

abbrev pub any_idle_time : ClaimRule
any_idle_time = record { min_idle = 0; when = time.Now; retry = None; just_id = false }

-- a reads both entries at 100; b reads them with NOACK; a reads one of them
abbrev pub read_by_a : GroupEvent
read_by_a = event 100 (read_new (codes "a") None false)

abbrev pub noack_by_b : GroupEvent
noack_by_b = event 100 (read_new (codes "b") None true)

abbrev pub first_by_a : GroupEvent
first_by_a = event 100 (read_new (codes "a") (Some 1) false)

-- b claims the first of both at 150
abbrev pub claim_by_b : GroupEvent
claim_by_b = event 150 (claim (codes "b") any_idle_time (at 2 0 ∷ []))

pub record Turns : Type 0 where
  pub first_of_two : is_turn_of start [] read_by_a (at 2 0) ≡ true
  pub last_of_two : is_turn_of start [] read_by_a (at 3 0) ≡ true
  pub of_the_start : is_turn_of start [] read_by_a (at 1 0) ≡ false
  pub past_the_last : is_turn_of start [] read_by_a (at 3 1) ≡ false
  pub not_yet : is_turn_of start [] first_by_a (at 3 0) ≡ false
  pub with_noack : is_turn_of start [] noack_by_b (at 2 0) ≡ true
  pub of_a_deleted_one : is_turn_of start [] (event_without 100 (read_new (codes "a") None false)) (at 2 0) ≡ true
  pub once : is_turn_of start (read_by_a ∷ []) read_by_a (at 2 0) ≡ false
  pub the_rest : is_turn_of start (first_by_a ∷ []) read_by_a (at 3 0) ≡ true
  pub not_by_an_id : is_turn_of start [] (event 100 (read_own (codes "a") None (at 0 0))) (at 2 0) ≡ false
  pub delivered_in_order : delivered_ids start (noack_by_b ∷ first_by_a ∷ []) ≡ at 2 0 ∷ at 3 0 ∷ []
  pub cursor_behind_both : cursor start (noack_by_b ∷ first_by_a ∷ []) ≡ at 3 0
  pub cursor_of_a_start_past_all : cursor (at 9 0) (read_by_a ∷ []) ≡ at 9 0
  pub pending_without_noack : is_made_pending_by start [] read_by_a (at 3 0) ≡ true
  pub not_with_noack : is_made_pending_by start [] noack_by_b (at 3 0) ≡ false
  pub not_what_isnt_delivered : is_made_pending_by start [] first_by_a (at 3 0) ≡ false
  pub not_by_a_claim : is_made_pending_by start (read_by_a ∷ []) claim_by_b (at 2 0) ≡ false

pub record Consumers : Type 0 where
  pub by_a_read : is_consumer (read_by_a ∷ []) (codes "a") ≡ true
  pub by_an_empty_read : is_consumer (event_over [] 100 (read_new (codes "a") None true) ∷ []) (codes "a") ≡ true
  pub by_a_read_of_its_own : is_consumer (event 100 (read_own (codes "a") None (at 0 0)) ∷ []) (codes "a") ≡ true
  pub by_a_claim : is_consumer (claim_by_b ∷ []) (codes "b") ≡ true
  pub by_a_scan : is_consumer (event 100 (auto_claim (codes "b") any_idle_time (at 0 0) 9) ∷ []) (codes "b") ≡ true
  pub by_creation : is_consumer (event 100 (create_consumer (codes "c")) ∷ []) (codes "c") ≡ true
  pub not_by_an_acknowledgement : is_consumer (event 100 (acknowledge (at 2 0 ∷ [])) ∷ []) (codes "a") ≡ false
  pub another : is_consumer (read_by_a ∷ []) (codes "b") ≡ false
  pub removed : is_consumer (event 200 (delete_consumer (codes "a")) ∷ read_by_a ∷ []) (codes "a") ≡ false
  pub another_removed : is_consumer (event 200 (delete_consumer (codes "b")) ∷ read_by_a ∷ []) (codes "a") ≡ true
  pub not_by_another_s_removal :
      is_consumer (event 200 (delete_consumer (codes "a")) ∷ read_by_a ∷ []) (codes "b") ≡ false
  pub back_again :
      is_consumer (event 300 (create_consumer (codes "a")) ∷ event 200 (delete_consumer (codes "a")) ∷ []) (codes "a")
      ≡ true
  pub asks_by_a_read : consumer_of (read_new (codes "a") None true) ≡ Some (codes "a")
  pub asks_by_its_own : consumer_of (read_own (codes "a") None (at 0 0)) ≡ Some (codes "a")
  pub asks_by_a_claim : consumer_of (claim (codes "a") any_idle_time []) ≡ Some (codes "a")
  pub asks_by_a_scan : consumer_of (auto_claim (codes "a") any_idle_time (at 0 0) 9) ≡ Some (codes "a")
  pub joins : consumer_of (create_consumer (codes "a")) ≡ Some (codes "a")
  pub leaves : consumer_of (delete_consumer (codes "a")) ≡ Some (codes "a")
  pub nobody_acknowledges : consumer_of (acknowledge []) ≡ None

-- own: an event that gives a consumer nothing doesn't change its moment; a real Redis 7.0 takes the moment of each read
-- and claim
pub record Moments : Type 0 where
  pub nobody_yet : seen_at start [] (codes "a") ≡ None
  pub of_a_read : seen_at start (read_by_a ∷ []) (codes "a") ≡ Some 100
  pub of_another : seen_at start (read_by_a ∷ []) (codes "b") ≡ None
  pub of_a_read_with_noack : seen_at start (noack_by_b ∷ []) (codes "b") ≡ Some 100
  pub of_a_new_one_that_finds_nothing :
      seen_at start (event 300 (read_new (codes "c") None false) ∷ read_by_a ∷ []) (codes "c") ≡ Some 300
  pub not_of_one_that_finds_nothing :
      seen_at start (event 300 (read_new (codes "a") None false) ∷ read_by_a ∷ []) (codes "a") ≡ Some 100
  pub of_its_own : seen_at start (event 300 (read_own (codes "a") None (at 0 0)) ∷ read_by_a ∷ []) (codes "a") ≡ Some 300
  pub not_of_its_own_that_is_deleted :
      seen_at start (event_without 300 (read_own (codes "a") (Some 1) (at 0 0)) ∷ read_by_a ∷ []) (codes "a") ≡ Some 100
  pub of_a_claim : seen_at start (claim_by_b ∷ read_by_a ∷ []) (codes "b") ≡ Some 150
  pub not_of_what_is_claimed_from_it : seen_at start (claim_by_b ∷ read_by_a ∷ []) (codes "a") ≡ Some 100
  pub of_a_scan :
      seen_at start (event 300 (auto_claim (codes "a") any_idle_time (at 0 0) 9) ∷ read_by_a ∷ []) (codes "a")
      ≡ Some 300
  pub not_of_a_claim_of_nothing :
      seen_at start (event 300 (claim (codes "a") any_idle_time (at 9 0 ∷ [])) ∷ read_by_a ∷ []) (codes "a")
      ≡ Some 100
  pub of_its_creation : seen_at start (event 200 (create_consumer (codes "c")) ∷ []) (codes "c") ≡ Some 200
  pub not_of_a_second_one : seen_at start (event 200 (create_consumer (codes "a")) ∷ read_by_a ∷ []) (codes "a") ≡ Some 100
  pub not_of_an_acknowledgement :
      seen_at start (event 200 (acknowledge (at 2 0 ∷ [])) ∷ read_by_a ∷ []) (codes "a") ≡ Some 100
  pub removed : seen_at start (event 200 (delete_consumer (codes "a")) ∷ read_by_a ∷ []) (codes "a") ≡ None
  pub back_again :
      seen_at start (event 300 (create_consumer (codes "a")) ∷ event 200 (delete_consumer (codes "a")) ∷ read_by_a ∷ [])
      (codes "a")
      ≡ Some 300

pub record Owners : Type 0 where
  pub nobody_yet : owner start [] (at 2 0) ≡ None
  pub the_reader : owner start (read_by_a ∷ []) (at 2 0) ≡ Some (codes "a")
  pub of_both : owner start (read_by_a ∷ []) (at 3 0) ≡ Some (codes "a")
  pub not_of_the_start : owner start (read_by_a ∷ []) (at 1 0) ≡ None
  pub nobody_with_noack : owner start (noack_by_b ∷ []) (at 2 0) ≡ None
  pub not_of_what_comes_later : owner start (first_by_a ∷ []) (at 3 0) ≡ None
  pub the_claimer : owner start (claim_by_b ∷ read_by_a ∷ []) (at 2 0) ≡ Some (codes "b")
  pub of_another_entry : owner start (claim_by_b ∷ read_by_a ∷ []) (at 3 0) ≡ Some (codes "a")
  pub the_scanner :
      owner start (event 150 (auto_claim (codes "b") any_idle_time (at 3 0) 9) ∷ read_by_a ∷ []) (at 3 0)
      ≡ Some (codes "b")
  pub acknowledged : owner start (event 200 (acknowledge (at 3 0 ∷ at 2 0 ∷ [])) ∷ read_by_a ∷ []) (at 2 0) ≡ None
  pub another_acknowledged :
      owner start (event 200 (acknowledge (at 3 0 ∷ [])) ∷ read_by_a ∷ []) (at 2 0) ≡ Some (codes "a")
  pub removed : owner start (event 200 (delete_consumer (codes "a")) ∷ read_by_a ∷ []) (at 2 0) ≡ None
  pub another_removed :
      owner start (event 200 (delete_consumer (codes "b")) ∷ read_by_a ∷ []) (at 2 0) ≡ Some (codes "a")
  pub earlier_owner_removed :
      owner start (event 200 (delete_consumer (codes "a")) ∷ claim_by_b ∷ read_by_a ∷ []) (at 2 0) ≡ Some (codes "b")
  pub claimer_removed :
      owner start (event 200 (delete_consumer (codes "b")) ∷ claim_by_b ∷ read_by_a ∷ []) (at 2 0) ≡ None
  pub deleted :
      owner start (event_without 200 (create_consumer (codes "c")) ∷ read_by_a ∷ []) (at 2 0) ≡ Some (codes "a")
  pub claimed_when_deleted :
      owner start (event_without 200 (claim (codes "b") any_idle_time (at 2 0 ∷ [])) ∷ read_by_a ∷ []) (at 2 0) ≡ None
  pub stays_settled :
      owner start (event 300 (read_new (codes "b") None false) ∷ event 200 (acknowledge (at 2 0 ∷ []))
      ∷ read_by_a ∷ []) (at 2 0)
      ≡ None
  pub not_claimed_when_settled :
      owner start (event 300 (claim (codes "b") any_idle_time (at 2 0 ∷ [])) ∷ event 200 (acknowledge (at 2 0 ∷ []))
      ∷ read_by_a ∷ [])
      (at 2 0) ≡ None
  pub own_entries_stay_its :
      owner start (event 200 (read_own (codes "b") None (at 0 0)) ∷ read_by_a ∷ []) (at 2 0) ≡ Some (codes "a")

pub record Settling : Type 0 where
  pub by_an_acknowledgement :
      may_settle_entry start (read_by_a ∷ []) (event 200 (acknowledge (at 3 0 ∷ at 2 0 ∷ []))) (at 2 0) ≡ true
  pub of_another : may_settle_entry start (read_by_a ∷ []) (event 200 (acknowledge (at 3 0 ∷ []))) (at 2 0) ≡ false
  pub by_a_removal : may_settle_entry start (read_by_a ∷ []) (event 200 (delete_consumer (codes "a"))) (at 2 0) ≡ true
  pub by_another_s : may_settle_entry start (read_by_a ∷ []) (event 200 (delete_consumer (codes "b"))) (at 2 0) ≡ false
  pub by_the_claimer_s :
      may_settle_entry start (claim_by_b ∷ read_by_a ∷ []) (event 200 (delete_consumer (codes "b"))) (at 2 0) ≡ true
  pub by_a_claim_that_finds_it_deleted :
      may_settle_entry start (read_by_a ∷ [])
      (event_without 200 (claim (codes "b") any_idle_time (at 2 0 ∷ []))) (at 2 0) ≡ true
  pub by_a_scan_that_finds_it_deleted :
      may_settle_entry start (read_by_a ∷ [])
      (event_without 200 (auto_claim (codes "b") any_idle_time (at 0 0) 9)) (at 2 0)
      ≡ true
  pub not_before_its_delivery : may_settle_entry start [] (event 200 (acknowledge (at 2 0 ∷ []))) (at 2 0) ≡ false
  pub not_with_noack : may_settle_entry start (noack_by_b ∷ []) (event 200 (acknowledge (at 2 0 ∷ []))) (at 2 0) ≡ false
  pub not_by_a_claim : may_settle_entry start (read_by_a ∷ []) claim_by_b (at 2 0) ≡ false
  pub not_by_a_read :
      may_settle_entry start (read_by_a ∷ []) (event_without 200 (read_own (codes "a") None (at 0 0))) (at 2 0) ≡ false
  pub taken_by_a_claim : is_taken_by_claim start (read_by_a ∷ []) claim_by_b (at 2 0) ≡ true
  pub another_isnt_taken : is_taken_by_claim start (read_by_a ∷ []) claim_by_b (at 3 0) ≡ false
  pub not_taken_before_its_delivery : is_taken_by_claim start [] claim_by_b (at 2 0) ≡ false
  pub assigned_by_a_read : is_assigned_by start [] read_by_a (at 2 0) ≡ true
  pub assigned_by_a_claim : is_assigned_by start (read_by_a ∷ []) claim_by_b (at 2 0) ≡ true
  pub not_by_noack : is_assigned_by start [] noack_by_b (at 2 0) ≡ false
  pub last_by_a_claim :
      last_assignee start (event 200 (acknowledge (at 2 0 ∷ [])) ∷ claim_by_b ∷ read_by_a ∷ []) (at 2 0)
      ≡ Some (codes "b")
  pub settled :
      is_settled start (event 200 (create_consumer (codes "c")) ∷ event 200 (acknowledge (at 2 0 ∷ []))
      ∷ read_by_a ∷ [])
      (at 2 0) ≡ true
  pub not_settled : is_settled start (claim_by_b ∷ read_by_a ∷ []) (at 2 0) ≡ false
  pub not_settled_too_early : is_settled start (event 200 (acknowledge (at 2 0 ∷ [])) ∷ []) (at 2 0) ≡ false
  pub settled_later :
      is_settled_in start (event 300 (create_consumer (codes "c")) ∷ event 200 (acknowledge (at 2 0 ∷ [])) ∷ [])
      (read_by_a ∷ []) (at 2 0)
      ≡ true
  pub settled_by_the_last :
      is_settled_in start (event 300 (acknowledge (at 2 0 ∷ [])) ∷ event 200 (create_consumer (codes "c")) ∷ [])
      (read_by_a ∷ []) (at 2 0)
      ≡ true
  pub not_settled_later : is_settled_in start (claim_by_b ∷ []) (read_by_a ∷ []) (at 2 0) ≡ false

pub record Rows : Type 0 where
  pub of_a_read :
      rows start (read_by_a ∷ []) ≡ pending (at 2 0) (codes "a") 100 1 ∷ pending (at 3 0) (codes "a") 100 1 ∷ []
  pub of_two_reads :
      rows start (event 150 (read_new (codes "b") None false) ∷ first_by_a ∷ [])
      ≡ pending (at 2 0) (codes "a") 100 1 ∷ pending (at 3 0) (codes "b") 150 1 ∷ []
  pub none_with_noack : rows start (noack_by_b ∷ first_by_a ∷ []) ≡ pending (at 2 0) (codes "a") 100 1 ∷ []
  pub of_a_claim :
      rows start (claim_by_b ∷ read_by_a ∷ [])
      ≡ pending (at 2 0) (codes "b") 150 2 ∷ pending (at 3 0) (codes "a") 100 1 ∷ []
  pub of_a_scan :
      rows start (event 150 (auto_claim (codes "b") any_idle_time (at 0 0) 9) ∷ read_by_a ∷ [])
      ≡ pending (at 2 0) (codes "b") 150 2 ∷ pending (at 3 0) (codes "b") 150 2 ∷ []
  pub without_what_a_claim_found_deleted :
      rows start (event_without 150 (auto_claim (codes "b") any_idle_time (at 0 0) 9) ∷ read_by_a ∷ [])
      ≡ pending (at 3 0) (codes "b") 150 2 ∷ []
  pub read_again :
      rows start (event_without 150 (read_own (codes "a") None (at 0 0)) ∷ read_by_a ∷ [])
      ≡ pending (at 2 0) (codes "a") 100 1 ∷ pending (at 3 0) (codes "a") 150 2 ∷ []
  pub read_again_by_another :
      rows start (event 150 (read_own (codes "b") None (at 0 0)) ∷ read_by_a ∷ [])
      ≡ pending (at 2 0) (codes "a") 100 1 ∷ pending (at 3 0) (codes "a") 100 1 ∷ []
  pub acknowledged :
      rows start (event 150 (acknowledge (at 2 0 ∷ [])) ∷ read_by_a ∷ []) ≡ pending (at 3 0) (codes "a") 100 1 ∷ []
  pub made_again :
      rows start (event 200 (create_consumer (codes "a")) ∷ read_by_a ∷ [])
      ≡ pending (at 2 0) (codes "a") 100 1 ∷ pending (at 3 0) (codes "a") 100 1 ∷ []
  pub removed :
      rows start (event 200 (delete_consumer (codes "a")) ∷ claim_by_b ∷ read_by_a ∷ [])
      ≡ pending (at 2 0) (codes "b") 150 2 ∷ []
  pub deleted :
      rows start (event_without 200 (create_consumer (codes "c")) ∷ read_by_a ∷ [])
      ≡ pending (at 2 0) (codes "a") 100 1 ∷ pending (at 3 0) (codes "a") 100 1 ∷ []
