use Rattle.xs_keys.proofs.Histories.{present-in-life}
use Rattle.xs_keys.proofs.ClaimedIds.{claims-idle}
use Rattle.xs_keys.proofs.laws.a_claim_takes_what_is_idle.Goals as goal

pub returns : goal.returns
returns c = λ past key group life e. claims-idle life.start life.events (present-in-life past key group life e)
