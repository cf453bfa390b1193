use Rattle.xs_resp.proofs.Decisions.{request-open, open-request}
use Rattle.xs_resp.proofs.laws.neither_stands.Goals as goal

pub returns : goal.returns
returns c = λ bytes. (request-open bytes, open-request bytes)
