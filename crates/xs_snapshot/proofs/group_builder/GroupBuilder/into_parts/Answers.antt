use Rattle.std.proofs.Common.{subst}
use Rattle.xs_group.specs.GroupState.{GroupState}
use Rattle.xs_keys.specs.Event.{Bytes}
use Rattle.xs_snapshot.specs.Restorable.{IsRestorableGroup}
use Rattle.xs_snapshot.proofs.group_builder.GroupBuilder.into_parts.Goals as goal

pub returns-clause-restorable : goal.returns-clause-restorable
returns-clause-restorable c = subst (λ (e : Bytes × GroupState). IsRestorableGroup e.1) c.self.view_is c.self.invariant.restorable
