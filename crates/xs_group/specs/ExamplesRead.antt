-- A group after reads, acknowledgements and changes of its consumers, by examples, by the Redis pages (Redis Streams,
-- "Consumer groups"; XREADGROUP; XACK; XGROUP) and the replies of a real Redis 7.0. A rule that is this server's is
-- marked "own".
use Rattle.std.specs.Prelude.{◌≡◌, ℕ, ◌+◌, ◌^◌, true, false, List, [], ◌∷◌, map, codes, Some, None}
use Rattle.xs_bytes.specs.MapOf.{from_entries}
use Rattle.xs_bytes.specs.SortedMap.{keys}
use Rattle.xs_stream.specs.declared.id.Id.{Id}
use Rattle.xs_stream.specs.Examples.{at}
use Rattle.xs_group.specs.GroupState.{RowState, Consumers, GroupState, has_name, is_same_name, idle_time, greatest_count}
use Rattle.xs_group.specs.GroupState.{next_count}
use Rattle.xs_group.specs.GroupState.{new_group}
use Rattle.xs_group.specs.GroupState.{with_consumer, group_after_ack, without_consumer, new_ids}
use Rattle.xs_group.specs.GroupState.{last_of, group_after_delivery, ids_of_consumer, reread_ids, group_after_reread}
use Rattle.xs_group.specs.Indexes.{rows_of}

abbrev pub pending : Id → List ℕ → ℕ → ℕ → Id × RowState
pending id consumer time count = (id, record { consumer = consumer; time = time; count = count })

-- consumers that were created at 90
abbrev pub names_in : List (List ℕ) → Consumers
names_in names = from_entries (map (λ name. (name, 90)) names)

-- a group that has delivered three entries: two to a, one to b, which was delivered again, and none to c
abbrev pub three : List (Id × RowState)
three =
    pending (at 1 0) (codes "a") 100 1 ∷ pending (at 2 0) (codes "b") 110 2 ∷ pending (at 3 0) (codes "a") 120 1 ∷ []

abbrev pub group : GroupState
group =
    record {
      cursor = at 3 0;
      consumers = names_in (codes "a" ∷ codes "b" ∷ codes "c" ∷ []);
      rows = rows_of three;
    }

-- the ids in the stream: the first of the three is deleted, and three more were added
abbrev pub present : List Id
present = at 2 0 ∷ at 3 0 ∷ at 4 0 ∷ at 5 0 ∷ at 6 0 ∷ []

-- the cursor, the consumers and the rows
abbrev pub Is : GroupState → Id → List (List ℕ) → List (Id × RowState) → Type 0
Is group cursor consumers rows =
    (group.cursor ≡ cursor) × ((keys group.consumers ≡ consumers) × (group.rows.entries ≡ rows))

pub record Counts : Type 0 where
  pub idle_for_some_time : idle_time 150 100 ≡ 50
  pub not_idle_yet : idle_time 100 100 ≡ 0
  pub moment_before_its_time_own : idle_time 90 100 ≡ 0
  pub one_delivery_more : next_count 1 ≡ 2
  pub to_the_greatest_count_own : next_count 9223372036854775806 ≡ 9223372036854775807
  pub stops_at_the_greatest_count_own : next_count 9223372036854775807 ≡ 9223372036854775807
  pub a_signed_number_of_64_bits : greatest_count + 1 ≡ 2 ^ 63

pub record Members : Type 0 where
  pub same_name : is_same_name (codes "ab") (codes "ab") ≡ true
  pub a_shorter_name : is_same_name (codes "ab") (codes "a") ≡ false
  pub a_longer_name : is_same_name (codes "a") (codes "ab") ≡ false
  pub case_counts : is_same_name (codes "a") (codes "A") ≡ false
  pub the_empty_name : is_same_name [] [] ≡ true
  pub has : has_name group.consumers (codes "c") ≡ true
  pub hasnt : has_name group.consumers (codes "d") ≡ false
  pub a_new_group : Is (new_group (at 5 0)) (at 5 0) [] []
  pub joins : Is (with_consumer (codes "d") 200 group) (at 3 0) (codes "a" ∷ codes "b" ∷ codes "c" ∷ codes "d" ∷ []) three
  pub in_the_order_of_bytes :
      Is (with_consumer (codes "aa") 200 group) (at 3 0) (codes "a" ∷ codes "aa" ∷ codes "b" ∷ codes "c" ∷ []) three
  pub joins_once : Is (with_consumer (codes "b") 200 group) (at 3 0) (codes "a" ∷ codes "b" ∷ codes "c" ∷ []) three
  pub leaves_with_its_entries :
      Is (without_consumer (codes "a") group) (at 3 0) (codes "b" ∷ codes "c" ∷ [])
      (pending (at 2 0) (codes "b") 110 2 ∷ [])
  pub leaves_without_entries : Is (without_consumer (codes "c") group) (at 3 0) (codes "a" ∷ codes "b" ∷ []) three
  pub isnt_there_to_leave :
      Is (without_consumer (codes "d") group) (at 3 0) (codes "a" ∷ codes "b" ∷ codes "c" ∷ []) three

pub record Acknowledged : Type 0 where
  pub first_and_last :
      Is (group_after_ack (at 1 0 ∷ at 3 0 ∷ []) group) (at 3 0) (codes "a" ∷ codes "b" ∷ codes "c" ∷ [])
      (pending (at 2 0) (codes "b") 110 2 ∷ [])
  pub in_any_order_and_twice :
      Is (group_after_ack (at 3 0 ∷ at 9 9 ∷ at 2 0 ∷ at 3 0 ∷ []) group) (at 3 0)
      (codes "a" ∷ codes "b" ∷ codes "c" ∷ [])
      (pending (at 1 0) (codes "a") 100 1 ∷ [])
  pub none_of_them : Is (group_after_ack (at 4 0 ∷ []) group) (at 3 0) (codes "a" ∷ codes "b" ∷ codes "c" ∷ []) three

-- XREADGROUP with `>`
pub record New : Type 0 where
  pub above_the_cursor : new_ids None (at 3 0) present ≡ at 4 0 ∷ at 5 0 ∷ at 6 0 ∷ []
  pub at_most_two : new_ids (Some 2) (at 3 0) present ≡ at 4 0 ∷ at 5 0 ∷ []
  pub from_the_start : new_ids (Some 1) (at 0 0) present ≡ at 2 0 ∷ []
  pub nothing_new : new_ids None (at 6 0) present ≡ []
  pub last_one : last_of (at 3 0) (at 4 0 ∷ at 5 0 ∷ []) ≡ at 5 0
  pub no_last_one : last_of (at 3 0) [] ≡ at 3 0
  pub delivered :
      Is (group_after_delivery (codes "d") 200 (Some 2) false present group) (at 5 0)
      (codes "a" ∷ codes "b" ∷ codes "c" ∷ codes "d" ∷ [])
      (pending (at 1 0) (codes "a") 100 1 ∷ pending (at 2 0) (codes "b") 110 2 ∷ pending (at 3 0) (codes "a") 120 1
      ∷ pending (at 4 0) (codes "d") 200 1 ∷ pending (at 5 0) (codes "d") 200 1 ∷ [])
  pub delivered_to_another :
      Is (group_after_delivery (codes "b") 200 (Some 1) false present group) (at 4 0)
      (codes "a" ∷ codes "b" ∷ codes "c" ∷ [])
      (pending (at 1 0) (codes "a") 100 1 ∷ pending (at 2 0) (codes "b") 110 2 ∷ pending (at 3 0) (codes "a") 120 1
      ∷ pending (at 4 0) (codes "b") 200 1 ∷ [])
  pub without_pending :
      Is (group_after_delivery (codes "d") 200 (Some 2) true present group) (at 5 0)
      (codes "a" ∷ codes "b" ∷ codes "c" ∷ codes "d" ∷ []) three
  pub nothing_to_deliver :
      Is (group_after_delivery (codes "d") 200 None false (at 2 0 ∷ at 3 0 ∷ []) group) (at 3 0)
      (codes "a" ∷ codes "b" ∷ codes "c" ∷ codes "d" ∷ []) three

-- XREADGROUP with an id; own: time and count rise with it
pub record Own : Type 0 where
  pub of_a_consumer : ids_of_consumer (codes "a") three ≡ at 1 0 ∷ at 3 0 ∷ []
  pub of_another : ids_of_consumer (codes "b") three ≡ at 2 0 ∷ []
  pub of_none : ids_of_consumer (codes "c") three ≡ []
  pub all_of_its_own : reread_ids (codes "a") None (at 0 0) three ≡ at 1 0 ∷ at 3 0 ∷ []
  pub first_of_its_own : reread_ids (codes "a") (Some 1) (at 0 0) three ≡ at 1 0 ∷ []
  pub above_an_id : reread_ids (codes "a") None (at 1 0) three ≡ at 3 0 ∷ []
  pub above_the_last : reread_ids (codes "a") None (at 3 0) three ≡ []
  pub delivered_again_if_in_the_stream :
      Is (group_after_reread (codes "a") 200 None (at 0 0) present group) (at 3 0)
      (codes "a" ∷ codes "b" ∷ codes "c" ∷ [])
      (pending (at 1 0) (codes "a") 100 1 ∷ pending (at 2 0) (codes "b") 110 2 ∷ pending (at 3 0) (codes "a") 200 2
      ∷ [])
  pub those_that_are_shown :
      Is (group_after_reread (codes "a") 200 (Some 1) (at 0 0) (at 1 0 ∷ at 2 0 ∷ at 3 0 ∷ []) group) (at 3 0)
      (codes "a" ∷ codes "b" ∷ codes "c" ∷ [])
      (pending (at 1 0) (codes "a") 200 2 ∷ pending (at 2 0) (codes "b") 110 2 ∷ pending (at 3 0) (codes "a") 120 1
      ∷ [])
  pub one_delivered_before :
      Is (group_after_reread (codes "b") 200 None (at 1 0) present group) (at 3 0)
      (codes "a" ∷ codes "b" ∷ codes "c" ∷ [])
      (pending (at 1 0) (codes "a") 100 1 ∷ pending (at 2 0) (codes "b") 200 3 ∷ pending (at 3 0) (codes "a") 120 1
      ∷ [])
  pub a_new_consumer :
      Is (group_after_reread (codes "d") 200 None (at 0 0) present group) (at 3 0)
      (codes "a" ∷ codes "b" ∷ codes "c" ∷ codes "d" ∷ []) three
