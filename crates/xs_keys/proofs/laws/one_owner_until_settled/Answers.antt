use Rattle.xs_keys.proofs.Owners.{owned-until-settled, changes-by-claims}
use Rattle.xs_keys.proofs.laws.one_owner_until_settled.Goals as goal

pub returns-clause-until_settled : goal.returns-clause-until_settled
returns-clause-until_settled c = λ past key group life e. owned-until-settled life.start life.events

pub returns-clause-by_claims : goal.returns-clause-by_claims
returns-clause-by_claims c = λ past key group life e. changes-by-claims life.start life.events
