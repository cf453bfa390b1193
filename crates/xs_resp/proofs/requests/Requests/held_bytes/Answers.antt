use Rattle.std.proofs.Common.{◌∙◌}
use Rattle.xs_resp.proofs.Skipping.{held-bytes}
use Rattle.xs_resp.proofs.requests.Requests.held_bytes.Goals as goal

pub returns : goal.returns
returns c = λ bytes is. c.bytes.ensures ∙ held-bytes c.self.inside.state c.self.inside.input bytes (c.self.view_is ∙ is)
