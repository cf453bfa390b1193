use Rattle.xs_resp.proofs.Decisions.{request-keeps}
use Rattle.xs_resp.proofs.laws.decision_stays.Goals as goal

pub returns : goal.returns
returns c = λ bytes more. request-keeps bytes more
