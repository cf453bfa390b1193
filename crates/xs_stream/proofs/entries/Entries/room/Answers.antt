use Rattle.std.proofs.Common.{arith}
use Rattle.xs_stream.proofs.Rooms.{adds-up, sum-small}
use Rattle.xs_stream.proofs.entries.Entries.room.Goals as goal

pub overflow_add-result : goal.overflow_add-result
overflow_add-result c = omega (arith, adds-up _ _ c.requires)

pub returns-clause-value : goal.returns-clause-value
returns-clause-value c = omega (arith, c.room.ensures.value, c.requires.sum)

pub returns-clause-small : goal.returns-clause-small
returns-clause-small c = omega (arith, c.room.ensures.small, sum-small _ _ c.requires)
