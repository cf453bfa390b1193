use Rattle.xs_resp.proofs.Decisions.{request-fault, fault-request}
use Rattle.xs_resp.proofs.laws.fault_stands.Goals as goal

pub returns : goal.returns
returns c = λ bytes wrong. (request-fault bytes wrong, fault-request bytes wrong)
