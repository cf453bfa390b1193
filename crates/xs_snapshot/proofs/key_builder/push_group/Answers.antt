use Rattle.std.proofs.Common.{sym, subst}
use Rattle.xs_group.specs.GroupState.{GroupState}
use Rattle.xs_keys.specs.Event.{Bytes}
use Rattle.xs_snapshot.specs.Restorable.{IsRestorableGroup}
use Rattle.xs_snapshot.proofs.RestorableParts.{all-pushed}
use Rattle.xs_snapshot.proofs.key_builder.push_group.Goals as goal

pub returns-clause-restorable : goal.returns-clause-restorable
returns-clause-restorable c = λ all.
    let parts = c.into_parts-name.ensures in
    all-pushed IsRestorableGroup c.push.result c.args.groups.now c.push.new.self c.into_parts-name.result c.push.ensures.behind c.push.ensures.refused c.push.ensures.err
    (subst (λ (e : Bytes × GroupState). IsRestorableGroup e.1) (sym parts.value) parts.restorable) all
