use Rattle.xs_group.proofs.Terms.{◌≡◌, ◌≤◌, ◌++◌, map, filter, length, leb, is_within, idle_time, pending_row}
use Rattle.xs_group.proofs.ReportRows.{listed_rows}
use Rattle.xs_group.proofs.reports.rows_of_ids.Given as goal

-- the rows so far and those to come are those of the range
abbrev pub invariant-loop-id : goal.invariant-loop-id
invariant-loop-id l =
    let s = l.selection in
    (l.found.items ++ map (pending_row s.moment)
    (filter (λ e. leb s.min_idle (idle_time s.moment e.1.time)) (listed_rows l.rows.entries l.id-iterator))
    ≡ map (pending_row s.moment) (filter (λ e. leb s.min_idle (idle_time s.moment e.1.time))
    (filter (λ e. is_within s.range e.0) (listed_rows l.rows.entries l.ids.keys))))
    × (length l.found.items ≤ s.limit)
