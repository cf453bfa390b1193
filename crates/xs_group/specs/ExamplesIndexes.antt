-- The definitions of the contracts within this crate, by examples over the group of `ExamplesRead`: the index by
-- consumer, reports as they are made, and a group after a read. They have the same meaning as those of `ExamplesRead`
-- and `ExamplesReport`.
use Rattle.std.specs.Prelude.{◌≡◌, ℕ, true, false, [], ◌∷◌, codes, Some, None}
use Rattle.xs_stream.specs.Examples.{at}
use Rattle.xs_group.specs.declared.delivery.DeliveryKind.TheVariants as kind
use Rattle.xs_group.specs.declared.reports.Selection.{Selection}
use Rattle.xs_group.specs.Indexes.{ConsumerIndex, rows_of, consumers_of, has_among, has_pending_id, AreFree}
use Rattle.xs_group.specs.Deliveries.{group_after_read, rows_taken_back}
use Rattle.xs_group.specs.Listing.{reported_owners, selected_rows}
use Rattle.xs_group.specs.Verdict.{AreSomeOf, AreAgreedBut}
use Rattle.xs_group.specs.ExamplesRead.{pending, three, group, Is}
use Rattle.xs_group.specs.ExamplesReport.{owner, row, everything}
use Rattle.xs_group.specs.ExamplesDelivered.{own}

-- the moments and the ids of a, of b, and none of c
abbrev pub owners : ConsumerIndex
owners =
    (codes "a", record { seen = 90; ids = record { keys = at 1 0 ∷ at 3 0 ∷ [] } })
    ∷ (codes "b", record { seen = 95; ids = record { keys = at 2 0 ∷ [] } })
    ∷ (codes "c", record { seen = 80; ids = record { keys = [] } }) ∷ []

pub record Indexes : Type 0 where
  pub moments : (consumers_of owners).entries ≡ (codes "a", 90) ∷ (codes "b", 95) ∷ (codes "c", 80) ∷ []
  pub has_the_first : has_pending_id owners (codes "a") (at 1 0) ≡ true
  pub has_the_last : has_pending_id owners (codes "a") (at 3 0) ≡ true
  pub hasnt_another_s : has_pending_id owners (codes "a") (at 2 0) ≡ false
  pub has_none : has_pending_id owners (codes "c") (at 1 0) ≡ false
  pub isnt_there : has_pending_id owners (codes "d") (at 1 0) ≡ false
  pub no_set : has_among None (at 1 0) ≡ false

-- at most this many rows that are idle for this many milliseconds
abbrev pub first : ℕ → ℕ → Selection
first limit min_idle = record { range = everything; min_idle = min_idle; moment = 150; limit = limit }

pub record Listed : Type 0 where
  pub owners_of_rows : reported_owners group.consumers group.rows ≡ owner (codes "a") 2 ∷ owner (codes "b") 1 ∷ []
  pub idle_for_as_long :
      selected_rows (first 9 40) None group.rows
      ≡ row (at 1 0) (codes "a") 50 1 ∷ row (at 2 0) (codes "b") 40 2 ∷ []
  pub the_first_of_two : selected_rows (first 1 40) None group.rows ≡ row (at 1 0) (codes "a") 50 1 ∷ []
  pub of_one_consumer :
      selected_rows (first 9 0) (Some (codes "a")) group.rows
      ≡ row (at 1 0) (codes "a") 50 1 ∷ row (at 3 0) (codes "a") 30 1 ∷ []
  pub the_first_of_a_consumer :
      selected_rows (first 1 0) (Some (codes "a")) group.rows ≡ row (at 1 0) (codes "a") 50 1 ∷ []

pub record Left : Type 0 where
  pub received_with_rows :
      Is (group_after_read (codes "d") 200 false (at 4 0 ∷ []) group) (at 4 0)
      (codes "a" ∷ codes "b" ∷ codes "c" ∷ codes "d" ∷ [])
      (pending (at 1 0) (codes "a") 100 1 ∷ pending (at 2 0) (codes "b") 110 2 ∷ pending (at 3 0) (codes "a") 120 1
      ∷ pending (at 4 0) (codes "d") 200 1 ∷ [])
  pub received_with_noack :
      Is (group_after_read (codes "d") 200 true (at 4 0 ∷ []) group) (at 4 0)
      (codes "a" ∷ codes "b" ∷ codes "c" ∷ codes "d" ∷ []) three
  pub nothing_received :
      Is (group_after_read (codes "b") 200 false [] group) (at 3 0) (codes "a" ∷ codes "b" ∷ codes "c" ∷ []) three
  pub noack_left_no_row : (rows_taken_back kind.NoAck (own (at 1 0) 90 5 ∷ []) (rows_of three)).entries ≡ three
  pub free : AreFree (rows_of three) []
  pub not_free : AreFree (rows_of three) (at 9 0 ∷ at 2 0 ∷ []) → ⊥
  pub not_some_of_those : AreSomeOf (at 2 0 ∷ []) (at 3 0 ∷ at 1 0 ∷ []) → ⊥
  pub lacks_one_of_those_besides : AreAgreedBut three owners (codes "c") (at 2 0 ∷ []) → ⊥
  pub has_one_that_isnt_besides :
      AreAgreedBut (pending (at 2 0) (codes "b") 110 2 ∷ []) owners (codes "a") (at 1 0 ∷ []) → ⊥
