use Rattle.xs_group.proofs.Terms.{sym, ap, ◌∙◌, take, get_or, take_more, last_of}
use Rattle.xs_group.proofs.Cursors.{last-more}
use Rattle.xs_group.proofs.reading.last_id.Goals as goal

pub loop-id-preserved : goal.loop-id-preserved
loop-id-preserved c =
    let id = get_or c.args.ids.now c.loop-id.id-index (record { ms = 0; seq = 0 }) in
    let next = take_more c.args.ids.now c.loop-id.id-index (record { ms = 0; seq = 0 }) c.loop-id-test.true in
    sym (ap (last_of c.args.before) next ∙ last-more c.args.before (take c.loop-id.id-index c.args.ids.now) id)
