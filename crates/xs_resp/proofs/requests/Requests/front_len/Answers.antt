use Rattle.std.proofs.Common.{◌≡◌, Ok, ap, ◌∙◌, subst}
use Rattle.xs_resp.specs.Progress.{Reaches}
use Rattle.xs_resp.specs.Reading.{request}
use Rattle.xs_resp.proofs.Skipping.{held-bytes, same-end}
use Rattle.xs_resp.proofs.requests.Requests.front_len.Goals as goal

pub returns : goal.returns
returns c = λ bytes found is read.
    let here : c.bytes.result.now ≡ bytes = c.bytes.ensures ∙ held-bytes c.self.inside.state c.self.inside.input bytes (c.self.view_is ∙ is) in
    let reaches = subst (λ r. Reaches c.bytes.result.now r) (c.unwrap.ensures ∙ ap Ok c.unwrap-2.ensures) c.read_on.ensures in
    same-end c.bytes.result.now c.unwrap-2.result found reaches.0 reaches.1 (ap request here ∙ read)
