use Rattle.xs_group.proofs.Terms.{get_or, take, ap, ◌∙◌, take_more, list_any, is_same_id, is_same_id-symm, arith}
use Rattle.xs_group.proofs.ChosenIds.{has-more}
use Rattle.xs_group.proofs.MovedRows.{some-take}
use Rattle.xs_group.proofs.consumer_index.insert_ids.Goals as goal

pub returns-in_default-clause-err : goal.returns-in_default-clause-err
returns-in_default-clause-err c = (
  take c.loop-id.id-index c.args.ids.now,
  some-take c.args.ids.now c.loop-id.id-index,
  λ x. ap (λ keys. list_any (is_same_id x) keys) c.in_default.ensures.err ∙ c.loop-id.invariant x,
)

pub loop-id-preserved : goal.loop-id-preserved
loop-id-preserved c =
    let next = take_more c.args.ids.now c.loop-id.id-index (record { ms = 0; seq = 0 }) c.loop-id-test.true in
    let id = get_or c.args.ids.now c.loop-id.id-index (record { ms = 0; seq = 0 }) in
    λ x. grind (
      arith,
      c.in-Ok.ensures.updates.0 x,
      is_same_id-symm id x,
      c.loop-id.invariant x,
      has-more (take c.loop-id.id-index c.args.ids.now) id x,
    )
