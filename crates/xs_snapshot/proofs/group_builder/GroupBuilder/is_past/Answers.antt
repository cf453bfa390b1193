use Rattle.std.proofs.Common.{sym, ◌∙◌}
use Rattle.xs_snapshot.proofs.LastConsumers.{past-last_name, past-no_name}
use Rattle.xs_snapshot.proofs.group_builder.GroupBuilder.is_past.Goals as goal

pub returns-in-Some : goal.returns-in-Some
returns-in-Some c =
    rw (← c.self.view_is) (c.lt.ensures ∙ past-last_name c.self.inside.group.consumers c.args.name.now c.in-Some.last (sym c.in-Some.is ∙ c.self.invariant.last_is))

pub returns-in-None : goal.returns-in-None
returns-in-None c =
    rw (← c.self.view_is) (past-no_name c.self.inside.group.consumers c.args.name.now (sym c.in-None.is ∙ c.self.invariant.last_is))
