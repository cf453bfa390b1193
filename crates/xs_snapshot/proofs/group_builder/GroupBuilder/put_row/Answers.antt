use Rattle.xs_group.specs.GroupState.{RowState}
use Rattle.xs_snapshot.proofs.RestorableParts.{row-so_far}
use Rattle.xs_snapshot.proofs.group_builder.GroupBuilder.put_row.Goals as goal

pub invariant_of-self : goal.invariant_of-self
invariant_of-self c =
    let row : RowState = record { consumer = c.args.consumer.now; time = c.args.time; count = c.args.count } in
    let put = c.restore_row.ensures in
    row-so_far c.restore_row.result c.self.inside.last_consumer c.self.inside.group c.restore_row.new.self c.args.id row c.self.invariant put.next put.ok put.refused put.err
