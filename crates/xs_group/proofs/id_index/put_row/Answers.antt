use Rattle.xs_group.proofs.Terms.{on_ok_weaker, is_same_id-symm, arith}
use Rattle.xs_group.proofs.id_index.put_row.Goals as goal

pub returns-clause-ok : goal.returns-clause-ok
returns-clause-ok c = on_ok_weaker c.insert.result (λ updates x.
    grind (arith, updates.0 x, is_same_id-symm c.args.id x)) c.insert.ensures.updates
