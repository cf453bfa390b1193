use Rattle.xs_resp.proofs.Decisions.{request-read, request-spelled}
use Rattle.xs_resp.proofs.laws.request_is_spelled.Goals as goal

pub returns : goal.returns
returns c = λ bytes found. (λ e. let read = request-read bytes found e in (read.within, read.spells), λ s. request-spelled bytes found (record { within = s.0; spells = s.1 }))
