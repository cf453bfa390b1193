use Rattle.xs_group.proofs.Terms.{ap, ◌∙◌, sym, has_name, arith}
use Rattle.xs_group.proofs.pending.Pending.redeliver.Goals as goal

pub give-requires : goal.give-requires
give-requires c = ap (λ held. has_name held.consumers c.args.name.now) c.set_touches.ensures ∙ c.requires

pub returns : goal.returns
returns c = grind arith
