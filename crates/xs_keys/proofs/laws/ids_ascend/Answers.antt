use Rattle.xs_keys.proofs.Streams.{ascends-added}
use Rattle.xs_keys.proofs.laws.ids_ascend.Goals as goal

pub returns : goal.returns
returns c = λ past name changes e. ascends-added changes
