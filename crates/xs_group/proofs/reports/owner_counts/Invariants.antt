use Rattle.xs_group.proofs.Terms.{◌≡◌, ◌++◌, List, filter, ltb, keys_of, Id, RowState, IsAgreed, rows_of}
use Rattle.xs_group.proofs.Terms.{counts_of_owners}
use Rattle.xs_group.proofs.ReportRows.{AreHeld}
use Rattle.xs_group.proofs.reports.owner_counts.Given as goal

-- what is counted so far and in the rest is the result
abbrev pub invariant-loop-name : goal.invariant-loop-name
invariant-loop-name l = record {
  held : AreHeld l.owners.entries l.name-iterator;
  counted : (rows : List (Id × RowState)) → IsAgreed rows l.owners.entries
      → l.counts.items ++ filter (λ owner. ltb 0 owner.count)
      (counts_of_owners (keys_of l.name-iterator) (rows_of rows).entries)
      ≡ filter (λ owner. ltb 0 owner.count) (counts_of_owners (keys_of l.owners.entries) (rows_of rows).entries);
}
