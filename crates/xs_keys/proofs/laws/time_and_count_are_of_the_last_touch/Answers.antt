use Rattle.xs_keys.proofs.TimesOfRows.{is-last-touched}
use Rattle.xs_keys.proofs.laws.time_and_count_are_of_the_last_touch.Goals as goal

pub returns : goal.returns
returns c = λ past key group life e. is-last-touched life.start life.events
