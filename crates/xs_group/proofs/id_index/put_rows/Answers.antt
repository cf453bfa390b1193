use Rattle.xs_group.proofs.Terms.{get_or, take, ap, take_more, indexed_row, arith}
use Rattle.xs_group.proofs.NewRows.{among-take}
use Rattle.xs_group.proofs.id_index.put_rows.Goals as goal
use Rattle.xs_group.proofs.ChosenIds.{has-more}
use Rattle.xs_group.proofs.Agreeing.{none-from_free}

pub returns-in_default-clause-err : goal.returns-in_default-clause-err
returns-in_default-clause-err c = λ x. grind (
  arith,
  c.remove_rows.ensures x,
  ap (λ rows. indexed_row rows x) c.in_default.ensures.err,
  c.loop-i.invariant x,
  none-from_free c.args.rows.now.entries x,
  c.requires x,
  among-take c.args.ids.now c.loop-i.i x,
)

pub loop-i-preserved : goal.loop-i-preserved
loop-i-preserved c =
    let next = take_more c.args.ids.now c.loop-i.i (record { ms = 0; seq = 0 }) c.loop-i-test.true in
    let id = get_or c.args.ids.now c.loop-i.i (record { ms = 0; seq = 0 }) in
    λ x. grind (arith, c.in-Ok.ensures.ok x, c.loop-i.invariant x, has-more (take c.loop-i.i c.args.ids.now) id x)
