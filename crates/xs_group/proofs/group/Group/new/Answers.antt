use Rattle.xs_group.proofs.group.Group.new.Goals as goal
use Rattle.xs_group.proofs.CountedNames.{counted-none}
use Rattle.xs_group.proofs.RemovedRows.{up_to-empty}

pub invariant_of-result : goal.invariant_of-result
invariant_of-result c = rw c.new.ensures (record { up_to_cursor = up_to-empty c.args.start; names_counted = counted-none })
