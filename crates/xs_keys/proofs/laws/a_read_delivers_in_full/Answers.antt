use Rattle.xs_keys.proofs.ClaimedIds.{in-full}
use Rattle.xs_keys.proofs.laws.a_read_delivers_in_full.Goals as goal

pub returns : goal.returns
returns c = λ past key group life e. in-full life.start life.events
