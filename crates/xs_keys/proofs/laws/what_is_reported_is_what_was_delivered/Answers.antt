use Rattle.xs_keys.proofs.Tellings.{is-reported}
use Rattle.xs_keys.proofs.laws.what_is_reported_is_what_was_delivered.Goals as goal

pub returns : goal.returns
returns c = λ past content now command is formed. is-reported past content now command is formed
