-- Reports as they are made: consumers in order, and rows in order.
use Rattle.std.specs.Prelude.{ℕ, List, map, filter, take, nat_lt, Option}
use Rattle.xs_bytes.specs.SortedMap.{keys}
use Rattle.xs_group.specs.declared.reports.OwnerCount.{OwnerCount}
use Rattle.xs_group.specs.declared.reports.PendingRow.{PendingRow}
use Rattle.xs_group.specs.declared.reports.Selection.{Selection}
use Rattle.xs_group.specs.GroupState.{Rows, Consumers}
use Rattle.xs_group.specs.Report.{counts_of_owners, pending_row, is_selected}

-- the consumers that have rows
abbrev pub reported_owners : Consumers → Rows → List OwnerCount
reported_owners consumers rows =
    filter (λ owner. nat_lt 0 owner.count) (counts_of_owners (keys consumers) rows.entries)

-- the first of the rows that are asked for, up to the limit
abbrev pub selected_rows : Selection → Option (List ℕ) → Rows → List PendingRow
selected_rows s consumer rows =
    let asked = filter (is_selected s.range s.min_idle s.moment consumer) rows.entries in
    take s.limit (map (pending_row s.moment) asked)
