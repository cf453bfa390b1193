use Rattle.xs_group.proofs.Terms.{get_or, take, take_more, get, ids_of, arith}
use Rattle.xs_group.proofs.pending.Pending.claim_among.Goals as goal
use Rattle.xs_group.proofs.ChosenIds.{taken-more, removed-more, row_at-get}

pub loop-id-preserved : goal.loop-id-preserved
loop-id-preserved c =
    let rows = c.args.self.now.rows in
    let present = ids_of c.args.stream.now.entries in
    let done = take c.loop-id.id-index c.args.ids.now in
    let id = get_or c.args.ids.now c.loop-id.id-index (record { ms = 0; seq = 0 }) in
    let next = take_more c.args.ids.now c.loop-id.id-index (record { ms = 0; seq = 0 }) c.loop-id-test.true in (
      grind (
        arith,
        taken-more rows.entries present c.args.terms.now.moment c.args.terms.now.rule (get rows id) id done
            (row_at-get rows id),
      ),
      grind (
        arith,
        removed-more rows.entries present c.args.terms.now.moment c.args.terms.now.rule (get rows id) id done
            (row_at-get rows id),
      ),
    )
