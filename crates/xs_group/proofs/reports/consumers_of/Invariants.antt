use Rattle.xs_group.proofs.Terms.{◌≡◌, ◌++◌, List, map, Id, RowState, IsAgreed}
use Rattle.xs_group.proofs.ReportRows.{AreHeld, report}
use Rattle.xs_group.proofs.reports.consumers_of.Given as goal

-- the reports so far and those of the rest are the reports of all
abbrev pub invariant-loop-name : goal.invariant-loop-name
invariant-loop-name l = record {
  held : AreHeld l.owners.entries l.name-iterator;
  found : (rows : List (Id × RowState)) → IsAgreed rows l.owners.entries
      → l.found.items ++ map (report l.fn.now rows) l.name-iterator ≡ map (report l.fn.now rows) l.owners.entries;
}
