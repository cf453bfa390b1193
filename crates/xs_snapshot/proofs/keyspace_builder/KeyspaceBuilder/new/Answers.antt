use Rattle.std.proofs.Common.{List, sym, subst}
use Rattle.std.specs.List.{AllByRecursion}
use Rattle.xs_keys.specs.Event.{Bytes}
use Rattle.xs_keys.specs.Content.{KeyState}
use Rattle.xs_snapshot.specs.Restorable.{IsRestorableKey}
use Rattle.xs_snapshot.proofs.KeysSoFar.{no-entries}
use Rattle.xs_snapshot.proofs.keyspace_builder.KeyspaceBuilder.new.Goals as goal

pub invariant_of-result : goal.invariant_of-result
invariant_of-result c =
    let none = no-entries c.new.result c.new.ensures in
    record { in_order = none; restorable = subst (λ (es : List (Bytes × KeyState)). AllByRecursion (λ e. IsRestorableKey e.1) es) (sym none) tt }

pub returns-clause-order : goal.returns-clause-order
returns-clause-order c = no-entries c.new.result c.new.ensures
