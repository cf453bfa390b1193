use Rattle.xs_keys.proofs.Deliveries.{ascends-delivered, past-start}
use Rattle.xs_keys.proofs.Histories.{present-in-life}
use Rattle.xs_keys.proofs.laws.deliveries_ascend.Goals as goal

pub returns-clause-ascend : goal.returns-clause-ascend
returns-clause-ascend c = λ past key group life e. ascends-delivered life.start life.events (present-in-life past key group life e)

pub returns-clause-past_start : goal.returns-clause-past_start
returns-clause-past_start c = λ past key group life e. past-start life.start life.events
