use Rattle.xs_resp.proofs.Cutting.{reads-only}
use Rattle.xs_resp.proofs.laws.reading_is_one.Goals as goal

pub returns : goal.returns
returns c = λ bytes requests others held other r s. reads-only requests others bytes held other r s
