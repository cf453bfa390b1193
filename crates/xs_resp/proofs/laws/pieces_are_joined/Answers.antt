use Rattle.std.proofs.Common.{[], Ok}
use Rattle.xs_resp.proofs.Cutting.{pieces-joined, nothing-read}
use Rattle.xs_resp.proofs.laws.pieces_are_joined.Goals as goal

pub returns : goal.returns
returns c = λ pieces requests held h. pieces-joined pieces [] [] requests (Ok []) held nothing-read h
