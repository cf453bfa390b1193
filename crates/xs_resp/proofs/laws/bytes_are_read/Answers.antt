use Rattle.xs_resp.proofs.Cutting.{all-read}
use Rattle.xs_resp.proofs.laws.bytes_are_read.Goals as goal

pub returns : goal.returns
returns c = λ bytes. all-read bytes
