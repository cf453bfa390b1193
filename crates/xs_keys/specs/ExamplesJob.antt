-- The life of a job by examples: each place, each arrow, and what isn't one; as a real Redis 7.0 lists pending entries
-- and delivers new ones after such lines. (Redis Streams, "Consumer groups"; XREADGROUP, XACK, XCLAIM, XAUTOCLAIM,
-- XPENDING.)
use Rattle.std.specs.Prelude.{◌≡◌, ℕ, Bool, List, [], ◌∷◌, codes, Option, Some, None}
use Rattle.xs_stream.specs.declared.id.Id.{Id}
use Rattle.xs_stream.specs.Examples.{at}
use Rattle.xs_keys.specs.Event.{History, event_command}
use Rattle.xs_command.specs.Read.{command_of_words}
use Rattle.xs_command.specs.Examples.{line}
use Rattle.xs_keys.specs.JobPlace.{Place, before_start, waiting, dropped, handed_out, pending, settled, StandsAt}
use Rattle.xs_keys.specs.JobMove.{HasArrow}
use Rattle.xs_command.specs.declared.command.GroupStart.TheVariants.{Top, At}
use Rattle.xs_keys.specs.Presence.{StartsAt}
use Rattle.xs_keys.specs.JobMove.{MovesAlong, is_final, NoneEndsGroup}
use Rattle.xs_keys.specs.JobPlace.{place_after}
use Rattle.xs_keys.specs.PlacesAddUp.{is_same_place, is_pending, jobs_at}
use Rattle.xs_keys.specs.ExamplesHistory.{event, events}
use Rattle.xs_keys.specs.ExamplesGroupEvents.{event_over, read_by_a, noack_by_b}
use Rattle.xs_keys.specs.ExamplesHeadline.{life}
use Rattle.xs_keys.specs.GroupEvent.{GroupEvent}
use Rattle.xs_keys.specs.GroupAsk.{acknowledge}
use Rattle.xs_keys.specs.Life.{StreamEvent, key_life}
use Rattle.xs_keys.specs.GroupLife.{GroupLife, group_life}

-- the place of an entry of the key s in its group g after these lines
abbrev pub stands_behind : List (List ℕ) → Id → Option Place
stands_behind lines x = place_after (events 5 lines) (codes "s") (codes "g") x

-- two entries, a group from the beginning on, and these lines
abbrev pub two_and : List (List ℕ) → List (List ℕ)
two_and lines = codes "XADD s 1-0 f v" ∷ codes "XADD s 2-0 f v" ∷ codes "XGROUP CREATE s g 0" ∷ lines

-- the place of the first of both then
abbrev pub first_stands : List (List ℕ) → Option Place
first_stands lines = stands_behind (two_and lines) (at 1 0)

abbrev pub read_by_c : List ℕ
read_by_c = codes "XREADGROUP GROUP g c STREAMS s >"

-- an acknowledgement of 2-0
abbrev pub acknowledged_two : GroupEvent
acknowledged_two = event_over [] 200 (acknowledge (at 2 0 ∷ []))

pub record Places : Type 0 where
  -- before a delivery
  pub waits : first_stands [] ≡ Some waiting
  pub waits_behind_another :
      stands_behind (two_and (codes "XREADGROUP GROUP g c COUNT 1 STREAMS s >" ∷ [])) (at 2 0) ≡ Some waiting
  pub waits_at_a_refused_read : first_stands (codes "XREADGROUP GROUP g c STREAMS s t > >" ∷ []) ≡ Some waiting
  pub waits_at_a_read_of_own_entries : first_stands (codes "XREADGROUP GROUP g c STREAMS s 0" ∷ []) ≡ Some waiting
  pub waits_at_an_acknowledgement : first_stands (codes "XACK s g 1-0" ∷ []) ≡ Some waiting
  pub waits_at_a_claim : first_stands (codes "XCLAIM s g d 0 1-0" ∷ []) ≡ Some waiting
  pub deleted : first_stands (codes "XDEL s 1-0" ∷ []) ≡ Some dropped
  pub trimmed : first_stands (codes "XTRIM s MAXLEN 1" ∷ []) ≡ Some dropped
  pub trimmed_by_an_addition : first_stands (codes "XADD s MINID 2 3-0 f v" ∷ []) ≡ Some dropped
  pub stays_dropped : first_stands (codes "XDEL s 1-0" ∷ read_by_c ∷ []) ≡ Some dropped
  pub trims_itself :
      stands_behind (codes "XGROUP CREATE s g $ MKSTREAM" ∷ codes "XADD s MAXLEN 0 4-0 f v" ∷ []) (at 4 0)
      ≡ Some dropped
  -- by a delivery
  pub is_read : first_stands (read_by_c ∷ []) ≡ Some (pending (codes "c"))
  pub is_read_with_noack : first_stands (codes "XREADGROUP GROUP g c NOACK STREAMS s >" ∷ []) ≡ Some handed_out
  pub one_with_noack_and_one_without :
      stands_behind (two_and (codes "XREADGROUP GROUP g c COUNT 1 NOACK STREAMS s >" ∷ read_by_c ∷ [])) (at 2 0)
      ≡ Some (pending (codes "c"))
  pub of_two_readers :
      stands_behind (two_and (codes "XREADGROUP GROUP g b COUNT 1 STREAMS s >"
      ∷ codes "XREADGROUP GROUP g a STREAMS s >" ∷ [])) (at 2 0) ≡ Some (pending (codes "a"))
  -- with its consumer
  pub pending_when_deleted : first_stands (read_by_c ∷ codes "XDEL s 1-0" ∷ []) ≡ Some (pending (codes "c"))
  pub pending_when_deleted_and_a_consumer_comes :
      first_stands (read_by_c ∷ codes "XDEL s 1-0" ∷ codes "XGROUP CREATECONSUMER s g d" ∷ [])
      ≡ Some (pending (codes "c"))
  pub pending_when_none_is_left : first_stands (read_by_c ∷ codes "XDEL s 1-0 2-0" ∷ []) ≡ Some (pending (codes "c"))
  pub pending_when_trimmed : first_stands (read_by_c ∷ codes "XTRIM s MAXLEN 0" ∷ []) ≡ Some (pending (codes "c"))
  pub read_again :
      first_stands (read_by_c ∷ codes "XREADGROUP GROUP g c STREAMS s 0" ∷ []) ≡ Some (pending (codes "c"))
  pub claimed : first_stands (read_by_c ∷ codes "XCLAIM s g d 0 1-0" ∷ []) ≡ Some (pending (codes "d"))
  pub claimed_by_its_id_alone :
      first_stands (read_by_c ∷ codes "XCLAIM s g d 0 1-0 JUSTID" ∷ []) ≡ Some (pending (codes "d"))
  pub claimed_by_a_scan : first_stands (read_by_c ∷ codes "XAUTOCLAIM s g d 0 0" ∷ []) ≡ Some (pending (codes "d"))
  pub not_idle_long_enough : first_stands (read_by_c ∷ codes "XCLAIM s g d 1 1-0" ∷ []) ≡ Some (pending (codes "c"))
  pub another_is_claimed : first_stands (read_by_c ∷ codes "XCLAIM s g d 0 2-0" ∷ []) ≡ Some (pending (codes "c"))
  pub another_consumer_leaves :
      first_stands (read_by_c ∷ codes "XGROUP DELCONSUMER s g d" ∷ []) ≡ Some (pending (codes "c"))
  -- settled
  pub acknowledged : first_stands (read_by_c ∷ codes "XACK s g 1-0" ∷ []) ≡ Some settled
  pub acknowledged_when_deleted :
      first_stands (read_by_c ∷ codes "XDEL s 1-0" ∷ codes "XACK s g 1-0" ∷ []) ≡ Some settled
  pub its_consumer_leaves : first_stands (read_by_c ∷ codes "XGROUP DELCONSUMER s g c" ∷ []) ≡ Some settled
  pub a_claim_finds_it_deleted :
      first_stands (read_by_c ∷ codes "XDEL s 1-0" ∷ codes "XCLAIM s g d 1000 1-0" ∷ []) ≡ Some settled
  pub a_scan_finds_it_deleted :
      first_stands (read_by_c ∷ codes "XDEL s 1-0" ∷ codes "XAUTOCLAIM s g d 1000 0" ∷ []) ≡ Some settled
  pub stays_settled :
      first_stands (read_by_c ∷ codes "XGROUP DELCONSUMER s g c" ∷ codes "XCLAIM s g d 0 1-0"
      ∷ codes "XREADGROUP GROUP g d STREAMS s >" ∷ []) ≡ Some settled
  pub stays_handed_out :
      first_stands (codes "XREADGROUP GROUP g c NOACK STREAMS s >" ∷ codes "XACK s g 1-0"
      ∷ codes "XCLAIM s g d 0 1-0" ∷ [])
      ≡ Some handed_out
  pub acknowledged_too_early :
      first_stands (codes "XACK s g 1-0" ∷ codes "XREADGROUP GROUP g c NOACK STREAMS s >" ∷ []) ≡ Some handed_out
  -- not the group's
  pub at_the_start :
      stands_behind (codes "XADD s 1-0 f v" ∷ codes "XADD s 2-0 f v" ∷ codes "XGROUP CREATE s g 2" ∷ []) (at 2 0)
      ≡ Some before_start
  pub given_below_the_start :
      stands_behind (codes "XGROUP CREATE s g 9 MKSTREAM" ∷ codes "XADD s 4-0 f v" ∷ read_by_c ∷ []) (at 4 0)
      ≡ Some before_start
  pub given_past_the_top :
      stands_behind (codes "XADD s 1-0 f v" ∷ codes "XGROUP CREATE s g $" ∷ codes "XADD s 4-0 f v" ∷ []) (at 4 0)
      ≡ Some waiting
  -- nowhere
  pub not_given : stands_behind (two_and []) (at 3 0) ≡ None
  pub of_a_destroyed_group : first_stands (read_by_c ∷ codes "XGROUP DESTROY s g" ∷ []) ≡ None
  pub of_a_deleted_key : first_stands (read_by_c ∷ codes "DEL s" ∷ []) ≡ None
  pub of_a_group_made_again :
      first_stands (read_by_c ∷ codes "XGROUP DESTROY s g" ∷ codes "XGROUP CREATE s g 0" ∷ []) ≡ Some waiting

-- the meaning of each place, in a group that starts at 1-0
pub record Standings : Type 0 where
  pub not_the_group_s : StandsAt (life []) (at 1 0 ∷ []) (at 1 0) before_start
  pub past_the_start : StandsAt (life []) (at 2 0 ∷ []) (at 2 0) before_start → ⊥
  pub waits : StandsAt (life []) (at 2 0 ∷ []) (at 2 0) waiting
  pub not_waiting_when_deleted : StandsAt (life []) [] (at 2 0) waiting → ⊥
  pub not_waiting_when_delivered : StandsAt (life (read_by_a ∷ [])) (at 2 0 ∷ []) (at 2 0) waiting → ⊥
  pub was_dropped : StandsAt (life []) [] (at 2 0) dropped
  pub not_dropped_at_the_start : StandsAt (life []) [] (at 1 0) dropped → ⊥
  pub not_dropped_in_the_stream : StandsAt (life []) (at 2 0 ∷ []) (at 2 0) dropped → ⊥
  pub not_dropped_when_delivered : StandsAt (life (read_by_a ∷ [])) [] (at 2 0) dropped → ⊥
  pub was_handed_out : StandsAt (life (noack_by_b ∷ [])) [] (at 2 0) handed_out
  pub not_handed_out_yet : StandsAt (life []) [] (at 2 0) handed_out → ⊥
  pub not_handed_out_to_a : StandsAt (life (read_by_a ∷ [])) [] (at 2 0) handed_out → ⊥
  pub is_pending_with_a : StandsAt (life (read_by_a ∷ [])) [] (at 2 0) (pending (codes "a"))
  pub not_pending_with_b : StandsAt (life (read_by_a ∷ [])) [] (at 2 0) (pending (codes "b")) → ⊥
  pub is_settled : StandsAt (life (acknowledged_two ∷ read_by_a ∷ [])) [] (at 2 0) settled
  pub not_settled_before : StandsAt (life (acknowledged_two ∷ [])) [] (at 2 0) settled → ⊥
  pub not_settled_yet : StandsAt (life (read_by_a ∷ [])) [] (at 2 0) settled → ⊥

-- a command leads the entry 1-0 of the key s, in its group g, from here to there
abbrev pub leads_by : History → List Id → Place → Place → Type 0
leads_by [] present here there = ⊥
leads_by (e ∷ es) present here there = HasArrow (event_command e) (codes "s") (codes "g") present (at 1 0) here there

-- these words do so, while it is in the stream
abbrev pub LeadsIt : List ℕ → Place → Place → Type 0
LeadsIt words here there = leads_by (event 5 (command_of_words (line words))) (at 1 0 ∷ []) here there

-- and these do, after it was deleted
abbrev pub LeadsDeleted : List ℕ → Place → Place → Type 0
LeadsDeleted words here there = leads_by (event 5 (command_of_words (line words))) [] here there

abbrev pub with_c : Place
with_c = pending (codes "c")

pub record Arrows : Type 0 where
  pub by_a_deletion : LeadsIt (codes "XDEL s 2-0 1-0") waiting dropped
  pub by_a_trim : LeadsIt (codes "XTRIM s MINID 2") waiting dropped
  pub by_an_addition_that_trims : LeadsIt (codes "XADD s MAXLEN 1 * f v") waiting dropped
  pub by_an_addition_that_trims_below : LeadsIt (codes "XADD s MINID 2 * f v") waiting dropped
  pub by_a_read : LeadsIt read_by_c waiting with_c
  pub by_a_read_of_two : LeadsIt (codes "XREADGROUP GROUP g c STREAMS t s > >") waiting with_c
  pub by_a_read_with_noack : LeadsIt (codes "XREADGROUP GROUP g c NOACK STREAMS s >") waiting handed_out
  pub by_a_claim : LeadsIt (codes "XCLAIM s g d 0 1-0") with_c (pending (codes "d"))
  pub by_a_scan : LeadsIt (codes "XAUTOCLAIM s g d 0 0") with_c (pending (codes "d"))
  pub by_an_acknowledgement : LeadsIt (codes "XACK s g 1-0") with_c settled
  pub by_a_removal : LeadsIt (codes "XGROUP DELCONSUMER s g c") with_c settled
  pub by_a_claim_of_a_deleted_one : LeadsDeleted (codes "XCLAIM s g d 0 1-0") with_c settled
  pub by_a_scan_of_a_deleted_one : LeadsDeleted (codes "XAUTOCLAIM s g d 0 0") with_c settled

-- these aren't arrows
pub record NoArrows : Type 0 where
  pub another_deleted : LeadsIt (codes "XDEL s 2-0") waiting dropped → ⊥
  pub deleted_elsewhere : LeadsIt (codes "XDEL t 1-0") waiting dropped → ⊥
  pub kept_by_a_trim : LeadsIt (codes "XTRIM s MAXLEN 1") waiting dropped → ⊥
  pub at_the_least_id : LeadsIt (codes "XTRIM s MINID 1") waiting dropped → ⊥
  pub kept_beside_an_addition : LeadsIt (codes "XADD s MAXLEN 2 * f v") waiting dropped → ⊥
  pub at_the_least_id_of_an_addition : LeadsIt (codes "XADD s MINID 1 * f v") waiting dropped → ⊥
  pub an_addition_alone : LeadsIt (codes "XADD s * f v") waiting dropped → ⊥
  pub read_by_another : LeadsIt (codes "XREADGROUP GROUP g d STREAMS s >") waiting with_c → ⊥
  pub read_with_noack : LeadsIt (codes "XREADGROUP GROUP g c NOACK STREAMS s >") waiting with_c → ⊥
  pub read_without_noack : LeadsIt read_by_c waiting handed_out → ⊥
  pub read_of_own_entries : LeadsIt (codes "XREADGROUP GROUP g c STREAMS s 0") waiting with_c → ⊥
  pub read_in_another_group : LeadsIt (codes "XREADGROUP GROUP h c STREAMS s >") waiting with_c → ⊥
  pub read_elsewhere : LeadsIt (codes "XREADGROUP GROUP g c STREAMS t >") waiting with_c → ⊥
  pub claimed_before_its_delivery : LeadsIt (codes "XCLAIM s g c 0 1-0") waiting with_c → ⊥
  pub settled_before_its_delivery : LeadsIt (codes "XACK s g 1-0") waiting settled → ⊥
  pub owner_changed_by_a_read : LeadsIt (codes "XREADGROUP GROUP g d STREAMS s >") with_c (pending (codes "d")) → ⊥
  pub another_claimed : LeadsIt (codes "XCLAIM s g d 0 2-0") with_c (pending (codes "d")) → ⊥
  pub claimed_in_another_group : LeadsIt (codes "XCLAIM s h d 0 1-0") with_c (pending (codes "d")) → ⊥
  pub claimed_elsewhere : LeadsIt (codes "XCLAIM t g d 0 1-0") with_c (pending (codes "d")) → ⊥
  pub another_group_scanned : LeadsIt (codes "XAUTOCLAIM s h d 0 0") with_c (pending (codes "d")) → ⊥
  pub another_stream_scanned : LeadsIt (codes "XAUTOCLAIM t g d 0 0") with_c (pending (codes "d")) → ⊥
  pub claimed_for_another : LeadsIt (codes "XCLAIM s g d 0 1-0") with_c (pending (codes "e")) → ⊥
  pub claimed_when_deleted : LeadsDeleted (codes "XCLAIM s g d 0 1-0") with_c (pending (codes "d")) → ⊥
  pub settled_by_a_claim : LeadsIt (codes "XCLAIM s g d 0 1-0") with_c settled → ⊥
  pub settled_by_a_deletion : LeadsIt (codes "XDEL s 1-0") with_c settled → ⊥
  pub settled_by_a_trim : LeadsIt (codes "XTRIM s MAXLEN 0") with_c settled → ⊥
  pub another_acknowledged : LeadsIt (codes "XACK s g 2-0") with_c settled → ⊥
  pub acknowledged_in_another_group : LeadsIt (codes "XACK s h 1-0") with_c settled → ⊥
  pub another_removed : LeadsIt (codes "XGROUP DELCONSUMER s g d") with_c settled → ⊥
  pub removed_from_another_group : LeadsIt (codes "XGROUP DELCONSUMER s h c") with_c settled → ⊥
  pub removed_elsewhere : LeadsIt (codes "XGROUP DELCONSUMER t g c") with_c settled → ⊥
  pub back_from_a_consumer : (words : List ℕ) → LeadsIt words with_c waiting → ⊥
  pub dropped_for_good : (words : List ℕ) (there : Place) → LeadsIt words dropped there → ⊥
  pub handed_out_for_good : (words : List ℕ) (there : Place) → LeadsIt words handed_out there → ⊥
  pub settled_for_good : (words : List ℕ) (there : Place) → LeadsIt words settled there → ⊥
  pub never_the_group_s : (words : List ℕ) (there : Place) → LeadsIt words before_start there → ⊥

-- how a command of some words moves the entry 1-0
abbrev pub goes_by : History → List Id → Option Place → Option Place → Type 0
goes_by [] present here there = ⊥
goes_by (e ∷ es) present here there = MovesAlong (event_command e) (codes "s") (codes "g") present (at 1 0) here there

abbrev pub GoesBy : List ℕ → Option Place → Option Place → Type 0
GoesBy words here there = goes_by (event 5 (command_of_words (line words))) (at 1 0 ∷ []) here there

abbrev pub GoesDeleted : List ℕ → Option Place → Option Place → Type 0
GoesDeleted words here there = goes_by (event 5 (command_of_words (line words))) [] here there

pub record Comings : Type 0 where
  pub is_given : GoesBy (codes "XADD s 1-0 f v") None (Some waiting)
  pub is_given_and_trimmed : GoesBy (codes "XADD s MAXLEN 0 1-0 f v") None (Some dropped)
  pub is_given_below_its_own_trim : GoesBy (codes "XADD s MINID 2 1-0 f v") None (Some dropped)
  pub not_trimmed_with_the_last_one : GoesBy (codes "XADD s MAXLEN 1 1-0 f v") None (Some dropped) → ⊥
  pub not_trimmed_at_the_bound : GoesBy (codes "XADD s MINID 1 1-0 f v") None (Some dropped) → ⊥
  pub is_given_below_the_start : GoesBy (codes "XADD s 1-0 f v") None (Some before_start)
  pub comes_with_the_group : GoesBy (codes "XGROUP CREATE s g 0") None (Some waiting)
  pub is_found_before_the_start : GoesBy (codes "XGROUP CREATE s g 1") None (Some before_start)
  pub is_found_by_a_group_at_the_top : GoesBy (codes "XGROUP CREATE s g $") None (Some before_start)
  pub is_found_deleted : GoesDeleted (codes "XGROUP CREATE s g 0") None (Some dropped)
  pub not_dropped_by_an_addition : GoesBy (codes "XADD s 1-0 f v") None (Some dropped) → ⊥
  pub not_dropped_by_a_group : GoesBy (codes "XGROUP CREATE s g 0") None (Some dropped) → ⊥
  pub not_passed_by_a_group : GoesBy (codes "XGROUP CREATE s g 0") None (Some before_start) → ⊥
  pub not_waiting_before_the_start : GoesBy (codes "XGROUP CREATE s g 1") None (Some waiting) → ⊥
  pub at_the_written_id : StartsAt (At (at 5 0)) ((at 7 0, []) ∷ []) (at 5 0)
  pub at_the_greatest_id_added : StartsAt Top ((at 7 0, []) ∷ []) (at 7 0)
  pub not_at_another_id : StartsAt (At (at 5 0)) ((at 7 0, []) ∷ []) (at 7 0) → ⊥
  pub goes_with_the_group : GoesBy (codes "XGROUP DESTROY s g") (Some with_c) None
  pub goes_with_the_key : GoesBy (codes "DEL t s") (Some with_c) None
  pub stays_nowhere : GoesBy (codes "PING") None None
  pub stays : GoesBy (codes "XDEL s 1-0") (Some with_c) (Some with_c)
  pub not_given_to_a_consumer : GoesBy (codes "XADD s 1-0 f v") None (Some with_c) → ⊥
  pub not_from_nowhere : GoesBy (codes "XTRIM s MAXLEN 1") None (Some waiting) → ⊥
  pub not_with_another_group : GoesBy (codes "XGROUP CREATE s h 0") None (Some waiting) → ⊥
  pub not_lost_with_another_group : GoesBy (codes "XGROUP DESTROY s h") (Some with_c) None → ⊥
  pub not_lost_with_a_group_elsewhere : GoesBy (codes "XGROUP DESTROY t g") (Some with_c) None → ⊥
  pub not_lost_by_a_deletion : GoesBy (codes "XDEL s 1-0") (Some with_c) None → ⊥
  pub not_lost_by_a_removal : GoesBy (codes "XGROUP DELCONSUMER s g c") (Some with_c) None → ⊥
  pub not_kept_by_an_acknowledgement : GoesBy (codes "XACK s g 1-0") (Some with_c) (Some with_c) → ⊥
  pub not_kept_by_a_removal : GoesBy (codes "XGROUP DELCONSUMER s g c") (Some with_c) (Some with_c) → ⊥
  pub kept_by_a_scan_of_others : GoesDeleted (codes "XAUTOCLAIM s g d 0 2") (Some with_c) (Some with_c)
  pub not_kept_by_a_claim_of_a_deleted_one : GoesDeleted (codes "XCLAIM s g d 9 1-0") (Some with_c) (Some with_c) → ⊥
  pub not_kept_by_a_deletion : GoesBy (codes "XDEL s 1-0") (Some waiting) (Some waiting) → ⊥

pub record Lasting : Type 0 where
  pub at_a_command_of_no_group : NoneEndsGroup (codes "s") (codes "g") (events 5 (codes "PING" ∷ codes "QUIT" ∷ []))
  pub at_another_group_s_end : NoneEndsGroup (codes "s") (codes "g") (events 5 (codes "XGROUP DESTROY s h" ∷ []))
  pub not_past_its_end :
      NoneEndsGroup (codes "s") (codes "g")
      (events 5 (codes "PING" ∷ codes "XGROUP DESTROY s g" ∷ codes "PING" ∷ [])) → ⊥

-- of five entries one is deleted, one is read and acknowledged, one is read with NOACK, one is read, and one waits
abbrev pub five_jobs : List (List ℕ)
five_jobs =
    codes "XADD s 1-0 f v" ∷ codes "XADD s 2-0 f v" ∷ codes "XADD s 3-0 f v" ∷ codes "XADD s 4-0 f v"
    ∷ codes "XADD s 5-0 f v" ∷ codes "XADD s 6-0 f v" ∷ codes "XGROUP CREATE s g 1" ∷ codes "XDEL s 2-0"
    ∷ codes "XREADGROUP GROUP g c COUNT 1 STREAMS s >" ∷ codes "XACK s g 3-0"
    ∷ codes "XREADGROUP GROUP g c COUNT 1 NOACK STREAMS s >" ∷ codes "XREADGROUP GROUP g d COUNT 1 STREAMS s >" ∷ []

-- the given entries at such places
abbrev pub jobs_in : Option (List StreamEvent) → Option GroupLife → (Place → Bool) → List Id
jobs_in (Some changes) (Some life) at = jobs_at at changes life
jobs_in _ _ at = []

abbrev pub of_five : (Place → Bool) → List Id
of_five at =
    jobs_in (key_life (events 5 five_jobs) (codes "s")) (group_life (events 5 five_jobs) (codes "s") (codes "g")) at

pub record Books : Type 0 where
  pub waiting_ones : of_five (is_same_place waiting) ≡ at 6 0 ∷ []
  pub dropped_ones : of_five (is_same_place dropped) ≡ at 2 0 ∷ []
  pub handed_out_ones : of_five (is_same_place handed_out) ≡ at 4 0 ∷ []
  pub pending_ones : of_five is_pending ≡ at 5 0 ∷ []
  pub pending_with_d : of_five (is_same_place (pending (codes "d"))) ≡ at 5 0 ∷ []
  pub pending_with_c : of_five (is_same_place (pending (codes "c"))) ≡ []
  pub settled_ones : of_five (is_same_place settled) ≡ at 3 0 ∷ []
  pub before_the_start : of_five (is_same_place before_start) ≡ at 1 0 ∷ []
  pub final_ones : of_five is_final ≡ at 1 0 ∷ at 2 0 ∷ at 3 0 ∷ at 4 0 ∷ []
