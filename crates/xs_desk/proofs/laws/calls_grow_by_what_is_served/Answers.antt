use Rattle.xs_desk.proofs.ServedCalls.{calls-run}
use Rattle.xs_desk.proofs.laws.calls_grow_by_what_is_served.Goals as goal

pub returns : goal.returns
returns c = λ old new calls more is serves. calls-run calls old more new is serves
