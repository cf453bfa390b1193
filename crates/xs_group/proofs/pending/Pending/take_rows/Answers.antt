use Rattle.xs_group.proofs.Terms.{take, sym, ap, take_more, row_ids, arith}
use Rattle.xs_group.proofs.pending.Pending.take_rows.Goals as goal
use Rattle.xs_group.proofs.RemovedRows.{acked-none, acked-more}
use Rattle.xs_group.proofs.Touching.{row_ids-append}

pub loop-row-init : goal.loop-row-init
loop-row-init c = ap (λ rows. record { consumers = c.args.self.now.consumers; rows = rows }) (sym (acked-none c.args.self.now.rows))

pub loop-row-preserved : goal.loop-row-preserved
loop-row-preserved c =
    let row = c.row-item.result in
    let done = take c.loop-row.row-index c.args.rows.now in
    let next = take_more c.args.rows.now c.loop-row.row-index row c.loop-row-test.true in
    grind (arith, acked-more (row_ids done) row.id c.args.self.now.rows, row_ids-append done row)
