use Rattle.std.proofs.Common.{sym, subst}
use Rattle.xs_snapshot.specs.Restorable.{IsRestorableGroup}
use Rattle.xs_snapshot.proofs.LastConsumers.{no-last_name}
use Rattle.xs_snapshot.proofs.RestorableParts.{group-new}
use Rattle.xs_snapshot.proofs.group_builder.GroupBuilder.new.Goals as goal

pub invariant_of-result : goal.invariant_of-result
invariant_of-result c = record { last_is = rw c.new.ensures no-last_name; restorable = subst IsRestorableGroup (sym c.new.ensures) (group-new c.args.cursor) }
