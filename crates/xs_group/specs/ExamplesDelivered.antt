-- What reads of a group return and how they are undone, what a claim does with one id, and what is true of every group,
-- by examples over the group of `ExamplesRead`. A real Redis 7.0 delivers so; the form of the result is this server's.
use Rattle.std.specs.Prelude.{◌≡◌, ℕ, true, false, [], ◌∷◌, codes, Some, None}
use Rattle.xs_stream.specs.declared.id.Id.{Id}
use Rattle.xs_stream.specs.Id.{is_same_id}
use Rattle.xs_stream.specs.Examples.{at}
use Rattle.xs_group.specs.declared.delivery.DeliveryRow.{DeliveryRow}
use Rattle.xs_group.specs.declared.delivery.DeliveryKind.TheVariants as kind
use Rattle.xs_group.specs.declared.claims.Verdict.TheVariants.{Passed, Taken, Removed}
use Rattle.xs_group.specs.GroupState.{GroupState, group_after_delivery, group_after_reread}
use Rattle.xs_group.specs.Indexes.{PendingList, rows_of, is_owner, indexed_row, IsNamed}
use Rattle.xs_group.specs.ConsistentGroup.{IsUpTo}
use Rattle.xs_group.specs.Deliveries.{delivery_of, history_of, set_rows, list_without_delivery}
use Rattle.xs_group.specs.Verdict.{verdict_of, hits_of, with_taken, with_removed, ids_scanned_after, row_after_move}
use Rattle.xs_group.specs.Verdict.{AreDistinct}
use Rattle.xs_group.specs.ExamplesRead.{pending, names_in, three, group, present}
use Rattle.xs_group.specs.ExamplesClaims.{idle_for, row, twelve}

abbrev pub new : Id → DeliveryRow
new id = record { id = id; present = true; before = None }

-- an entry of the consumer's own, with its time and count before
abbrev pub own : Id → ℕ → ℕ → DeliveryRow
own id time count = record { id = id; present = true; before = Some (record { time = time; count = count }) }

abbrev pub gone : Id → ℕ → ℕ → DeliveryRow
gone id time count = record { id = id; present = false; before = Some (record { time = time; count = count }) }

-- the fields of a delivery except its kind, which each example gives
pub record Answers : Type 0 where
  pub to_a_new_consumer :
      delivery_of (codes "d") (Some 2) false present group
      ≡ record {
        consumer = codes "d";
        created = true;
        seen_before = None;
        cursor_before = at 3 0;
        kind = kind.New;
        rows = new (at 4 0) ∷ new (at 5 0) ∷ [];
      }
  pub without_pending :
      delivery_of (codes "a") (Some 1) true present group
      ≡ record {
        consumer = codes "a";
        created = false;
        seen_before = Some 90;
        cursor_before = at 3 0;
        kind = kind.NoAck;
        rows = new (at 4 0) ∷ [];
      }
  pub of_its_own :
      history_of (codes "a") None (at 0 0) present group
      ≡ record {
        consumer = codes "a";
        created = false;
        seen_before = Some 90;
        cursor_before = at 3 0;
        kind = kind.History;
        rows = gone (at 1 0) 100 1 ∷ own (at 3 0) 120 1 ∷ [];
      }
  pub none_of_its_own :
      history_of (codes "d") (Some 9) (at 0 0) present group
      ≡ record {
        consumer = codes "d";
        created = true;
        seen_before = None;
        cursor_before = at 3 0;
        kind = kind.History;
        rows = [];
      }
  pub above_an_id :
      history_of (codes "a") (Some 1) (at 1 0) present group
      ≡ record {
        consumer = codes "a";
        created = false;
        seen_before = Some 90;
        cursor_before = at 3 0;
        kind = kind.History;
        rows = own (at 3 0) 120 1 ∷ [];
      }

abbrev pub held : GroupState → PendingList
held group = record { consumers = group.consumers; rows = group.rows }

-- the consumers and the rows are those of the group before the read
abbrev pub IsAsBefore : PendingList → Type 0
IsAsBefore held =
    (held.consumers.entries ≡ (codes "a", 90) ∷ (codes "b", 90) ∷ (codes "c", 90) ∷ []) × (held.rows.entries ≡ three)

pub record TakenBack : Type 0 where
  pub new_entries_of_a_new_consumer :
      IsAsBefore (list_without_delivery (delivery_of (codes "d") (Some 2) false present group)
      (held (group_after_delivery (codes "d") 200 (Some 2) false present group)))
  pub new_entries_of_a_known_one :
      IsAsBefore (list_without_delivery (delivery_of (codes "a") None false present group)
      (held (group_after_delivery (codes "a") 200 None false present group)))
  pub entries_that_arent_pending :
      IsAsBefore (list_without_delivery (delivery_of (codes "d") None true present group)
      (held (group_after_delivery (codes "d") 200 None true present group)))
  pub own_entries :
      IsAsBefore (list_without_delivery (history_of (codes "a") None (at 0 0) present group)
      (held (group_after_reread (codes "a") 200 None (at 0 0) present group)))
  pub nothing_of_a_new_consumer :
      IsAsBefore (list_without_delivery (history_of (codes "d") None (at 0 0) present group)
      (held (group_after_reread (codes "d") 200 None (at 0 0) present group)))
  pub sets_time_and_count :
      (set_rows (Some 200) (gone (at 1 0) 100 1 ∷ own (at 3 0) 120 1 ∷ []) (rows_of three)).entries
      ≡ pending (at 1 0) (codes "a") 100 1 ∷ pending (at 2 0) (codes "b") 110 2 ∷ pending (at 3 0) (codes "a") 200 2
      ∷ []
  pub sets_them_back :
      (set_rows None (gone (at 1 0) 90 5 ∷ own (at 3 0) 95 6 ∷ []) (rows_of three)).entries
      ≡ pending (at 1 0) (codes "a") 90 5 ∷ pending (at 2 0) (codes "b") 110 2 ∷ pending (at 3 0) (codes "a") 95 6 ∷ []

-- what a claim does with one id after another
pub record Verdicts : Type 0 where
  pub of_no_row : verdict_of None true 150 (idle_for 0) ≡ Passed
  pub idle_enough : verdict_of (Some (row (codes "a") 100 1)) true 150 (idle_for 50) ≡ Taken
  pub not_idle_enough : verdict_of (Some (row (codes "a") 100 1)) true 149 (idle_for 50) ≡ Passed
  pub deleted : verdict_of (Some (row (codes "a") 100 1)) false 149 (idle_for 50) ≡ Removed
  pub passed_is_no_hit : hits_of Passed ≡ 0
  pub taken_is_one : hits_of Taken ≡ 1
  pub removed_is_one : hits_of Removed ≡ 1
  pub taken_behind_others : with_taken Taken (at 1 0 ∷ []) (at 2 0) ≡ at 1 0 ∷ at 2 0 ∷ []
  pub others_arent_taken : with_taken Removed (at 1 0 ∷ []) (at 2 0) ≡ at 1 0 ∷ []
  pub removed_behind_others : with_removed Removed (at 1 0 ∷ []) (at 2 0) ≡ at 1 0 ∷ at 2 0 ∷ []
  pub others_arent_removed : with_removed Taken (at 1 0 ∷ []) (at 2 0) ≡ at 1 0 ∷ []
  pub up_to_the_hits : ids_scanned_after (λ x. is_same_id x (at 3 0)) 1 0 0 twelve ≡ at 1 0 ∷ at 2 0 ∷ at 3 0 ∷ []
  pub up_to_two_hits : ids_scanned_after (λ x. true) 2 0 0 twelve ≡ at 1 0 ∷ at 2 0 ∷ []
  pub up_to_ten_times_as_many :
      ids_scanned_after (λ x. false) 1 0 0 twelve
      ≡ at 1 0 ∷ at 2 0 ∷ at 3 0 ∷ at 4 0 ∷ at 5 0 ∷ at 6 0 ∷ at 7 0 ∷ at 8 0 ∷ at 9 0 ∷ at 10 0 ∷ []
  pub moves_those_named :
      row_after_move (codes "d") 200 (idle_for 0) (at 2 0 ∷ at 1 0 ∷ []) (at 1 0) (row (codes "a") 100 1)
      ≡ Some (row (codes "d") 200 2)
  pub leaves_others :
      row_after_move (codes "d") 200 (idle_for 0) (at 2 0 ∷ []) (at 1 0) (row (codes "a") 100 1)
      ≡ Some (row (codes "a") 100 1)

pub record Consistent : Type 0 where
  pub apart : AreDistinct (at 2 0 ∷ at 1 0 ∷ at 3 0 ∷ [])
  pub not_apart : AreDistinct (at 2 0 ∷ at 1 0 ∷ at 2 0 ∷ []) → ⊥
  pub not_apart_at_the_end : AreDistinct (at 2 0 ∷ at 1 0 ∷ at 1 0 ∷ []) → ⊥
  pub owner : is_owner (indexed_row three (at 2 0)) (codes "b") ≡ true
  pub another : is_owner (indexed_row three (at 2 0)) (codes "a") ≡ false
  pub nobody : is_owner (indexed_row three (at 4 0)) (codes "a") ≡ false
  pub above_the_cursor : IsUpTo (at 2 9) (rows_of three) → ⊥
  pub of_no_consumer : IsNamed (names_in (codes "a" ∷ codes "c" ∷ [])) (rows_of three) → ⊥
