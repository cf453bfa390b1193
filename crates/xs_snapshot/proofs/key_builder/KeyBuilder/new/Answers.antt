use Rattle.xs_snapshot.proofs.KeysSoFar.{nothing-so_far, no-entries}
use Rattle.xs_snapshot.proofs.key_builder.KeyBuilder.new.Goals as goal

pub invariant_of-result : goal.invariant_of-result
invariant_of-result c = nothing-so_far c.new.result c.new-2.result c.new.ensures c.new-2.ensures

pub returns-clause-first : goal.returns-clause-first
returns-clause-first c = no-entries c.new-2.result c.new-2.ensures
