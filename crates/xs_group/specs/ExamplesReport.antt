-- What is pending, by examples, by the Redis page (XPENDING) and the replies of a real Redis 7.0. A rule that is this
-- server's is marked "own".
use Rattle.std.specs.Prelude.{◌≡◌, ℕ, ◌-◌, List, [], ◌∷◌, codes, Some, None}
use Rattle.xs_stream.specs.declared.id.Id.{Id}
use Rattle.xs_stream.specs.declared.range.Range.{Range}
use Rattle.xs_stream.specs.Id.{zero_id, greatest_id}
use Rattle.xs_stream.specs.Examples.{at}
use Rattle.xs_group.specs.declared.reports.ConsumerReport.{ConsumerReport}
use Rattle.xs_group.specs.declared.reports.OwnerCount.{OwnerCount}
use Rattle.xs_group.specs.declared.reports.PendingRow.{PendingRow}
use Rattle.xs_group.specs.GroupState.{GroupState, new_group}
use Rattle.xs_group.specs.Report.{owned_count, summary_of, pending_of, consumer_reports}
use Rattle.xs_group.specs.Indexes.{rows_of}
use Rattle.xs_group.specs.ExamplesRead.{group, names_in, pending}

abbrev pub owner : List ℕ → ℕ → OwnerCount
owner consumer count = record { consumer = consumer; count = count }

-- a row at 150
abbrev pub row : Id → List ℕ → ℕ → ℕ → PendingRow
row id consumer idle count =
    record { id = id; consumer = consumer; time = 150 - idle; idle = idle; count = count }

abbrev pub everything : Range
everything = record { low = zero_id; high = greatest_id }

abbrev pub between : Id → Id → Range
between low high = record { low = low; high = high }

-- a group whose first row was claimed again after the others were delivered
abbrev pub taken_over : GroupState
taken_over =
    record {
      cursor = at 4 0;
      consumers = names_in (codes "a" ∷ codes "b" ∷ []);
      rows = rows_of (pending (at 1 0) (codes "a") 140 2 ∷ pending (at 2 0) (codes "b") 110 1
          ∷ pending (at 3 0) (codes "a") 120 1 ∷ pending (at 4 0) (codes "a") 100 1 ∷ []);
    }

-- own: the consumers in the order of their bytes
pub record Summaries : Type 0 where
  pub two_owners :
      summary_of group
      ≡ record {
        total = 3;
        least = Some (at 1 0);
        greatest = Some (at 3 0);
        owners = owner (codes "a") 2 ∷ owner (codes "b") 1 ∷ [];
      }
  pub nothing_pending :
      summary_of (new_group (at 1 0)) ≡ record { total = 0; least = None; greatest = None; owners = [] }
  pub owns_two : owned_count (codes "a") group ≡ 2
  pub owns_one : owned_count (codes "b") group ≡ 1
  pub owns_none : owned_count (codes "c") group ≡ 0

abbrev pub consumer : List ℕ → ℕ → ℕ → ConsumerReport
consumer name pending idle = record { consumer = name; pending = pending; seen = 90; idle = idle }

pub record Reports : Type 0 where
  pub three :
      consumer_reports 150 group
      ≡ consumer (codes "a") 2 60 ∷ consumer (codes "b") 1 60 ∷ consumer (codes "c") 0 60 ∷ []
  pub at_a_moment_before_own :
      consumer_reports 80 taken_over ≡ consumer (codes "a") 3 0 ∷ consumer (codes "b") 1 0 ∷ []
  pub none : consumer_reports 150 (new_group (at 1 0)) ≡ []

pub record Rows : Type 0 where
  pub all :
      pending_of everything 0 150 10 None group
      ≡ row (at 1 0) (codes "a") 50 1 ∷ row (at 2 0) (codes "b") 40 2 ∷ row (at 3 0) (codes "a") 30 1 ∷ []
  pub at_most_two :
      pending_of everything 0 150 2 None group ≡ row (at 1 0) (codes "a") 50 1 ∷ row (at 2 0) (codes "b") 40 2 ∷ []
  pub at_most_none_own : pending_of everything 0 150 0 None group ≡ []
  pub both_ends_belong :
      pending_of (between (at 2 0) (at 3 0)) 0 150 10 None group
      ≡ row (at 2 0) (codes "b") 40 2 ∷ row (at 3 0) (codes "a") 30 1 ∷ []
  pub between_two_ids : pending_of (between (at 1 1) (at 2 9)) 0 150 10 None group ≡ row (at 2 0) (codes "b") 40 2 ∷ []
  pub of_a_consumer :
      pending_of everything 0 150 10 (Some (codes "a")) group
      ≡ row (at 1 0) (codes "a") 50 1 ∷ row (at 3 0) (codes "a") 30 1 ∷ []
  pub the_first_of_a_consumer :
      pending_of (between (at 2 0) greatest_id) 0 150 1 (Some (codes "a")) group ≡ row (at 3 0) (codes "a") 30 1 ∷ []
  pub of_none : pending_of everything 0 150 10 (Some (codes "z")) group ≡ []
  pub idle_for_as_long :
      pending_of everything 40 150 10 None group
      ≡ row (at 1 0) (codes "a") 50 1 ∷ row (at 2 0) (codes "b") 40 2 ∷ []
  pub idle_for_longer : pending_of everything 41 150 10 None group ≡ row (at 1 0) (codes "a") 50 1 ∷ []
  pub first_that_is_idle : pending_of everything 40 150 1 None taken_over ≡ row (at 2 0) (codes "b") 40 1 ∷ []
  pub first_of_a_consumer_that_is_idle :
      pending_of everything 40 150 1 (Some (codes "a")) taken_over ≡ row (at 4 0) (codes "a") 50 1 ∷ []
  pub idle_in_a_range : pending_of (between (at 2 0) (at 3 0)) 40 150 10 (Some (codes "a")) group ≡ []
  pub moment_before_its_time_own :
      pending_of everything 0 90 1 None group
      ≡ record { id = at 1 0; consumer = codes "a"; time = 100; idle = 0; count = 1 } ∷ []
