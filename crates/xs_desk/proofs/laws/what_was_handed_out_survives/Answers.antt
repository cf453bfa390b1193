use Rattle.xs_desk.proofs.Durables.{survives}
use Rattle.xs_desk.proofs.laws.what_was_handed_out_survives.Goals as goal

pub returns : goal.returns
returns g c = λ calls ends start content journal durable. survives g.J.Journal.has calls ends start content journal durable
