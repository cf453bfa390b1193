use Rattle.xs_group.proofs.Terms.{get_or, take, sym, ap, take_more, arith}
use Rattle.xs_group.proofs.pending.Pending.take_all.Goals as goal
use Rattle.xs_group.proofs.RemovedRows.{acked-none, acked-more}

pub loop-id-init : goal.loop-id-init
loop-id-init c = ap (λ rows. record { consumers = c.args.self.now.consumers; rows = rows }) (sym (acked-none c.args.self.now.rows))

pub loop-id-preserved : goal.loop-id-preserved
loop-id-preserved c =
    let next = take_more c.args.ids.now c.loop-id.id-index (record { ms = 0; seq = 0 }) c.loop-id-test.true in
    let id = get_or c.args.ids.now c.loop-id.id-index (record { ms = 0; seq = 0 }) in
    grind (arith, acked-more (take c.loop-id.id-index c.args.ids.now) id c.args.self.now.rows)
