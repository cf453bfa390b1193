use Rattle.xs_keys.proofs.Deliveries.{had-event}
use Rattle.xs_keys.proofs.Histories.{present-in-life}
use Rattle.xs_keys.proofs.laws.delivered_exactly_if_present_at_its_turn.Goals as goal

pub returns : goal.returns
returns c = λ past key group life e x low high. had-event life.start life.events x (present-in-life past key group life e) low high
