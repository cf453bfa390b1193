use Rattle.xs_group.proofs.Terms.{◌≡◌, ◌≤◌, ◌++◌, None, map, filter, length, leb, idle_time, rows_of, pending_row}
use Rattle.xs_group.proofs.Terms.{is_selected}
use Rattle.xs_group.proofs.reports.rows_within.Given as goal

-- the rows so far and those to come are those that are asked for
abbrev pub invariant-loop-id : goal.invariant-loop-id
invariant-loop-id l =
    let s = l.selection in
    (l.found.items ++ map (pending_row s.moment) (filter (λ e. leb s.min_idle (idle_time s.moment e.1.time)) l.id-iterator)
    ≡ map (pending_row s.moment) (filter (is_selected s.range s.min_idle s.moment None)
    (rows_of l.rows.entries).entries))
    × (length l.found.items ≤ s.limit)
