use Rattle.xs_group.proofs.Terms.{arith}
use Rattle.xs_group.proofs.group.Group.name_bytes_with.Goals as goal

pub returns-in-Some : goal.returns-in-Some
returns-in-Some c = rw (← c.self.view_is) (omega (arith, c.self.invariant.names_counted, c.len.ensures))
