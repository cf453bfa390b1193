use Rattle.xs_group.proofs.Ordered.{is-consistent}
use Rattle.xs_group.proofs.group.Group.iter_rows.Goals as goal

pub returns-clause-consistent : goal.returns-clause-consistent
returns-clause-consistent c =
    rw (← c.self.view_is) (is-consistent c.self.inside.cursor c.self.inside.pending c.self.invariant.up_to_cursor c.iter_rows.ensures.named)
