use Rattle.std.proofs.Common.{◌≡◌, Ok, sym, ap, ◌∙◌, subst}
use Rattle.xs_resp.specs.Progress.{Reaches}
use Rattle.xs_resp.specs.Reading.{request, IsWhole}
use Rattle.xs_resp.proofs.Skipping.{held-bytes, reached-end}
use Rattle.xs_resp.proofs.requests.Requests.skip.Goals as goal

pub returns : goal.returns
returns c =
    let bytes = c.self.inside.input in
    let here : c.bytes.result.now ≡ bytes = c.bytes.ensures in
    let held = here ∙ held-bytes c.self.inside.state bytes c.requires.bytes (c.self.view_is ∙ c.requires.holds) in
    let progress = c.unwrap-reached.result in
    let reaches = subst (λ r. Reaches c.bytes.result.now r) (c.unwrap.ensures ∙ ap Ok c.unwrap-reached.ensures) c.read_on.ensures in
    let whole = subst (λ b. IsWhole (request b)) (sym held) c.requires.whole in
    let left = c.consume.ensures in
    record {
      bytes = bytes;
      found = record { words = (reaches.0).passed; end = progress.at };
      holds = c.requires.holds ∙ ap Ok (sym held ∙ here);
      read = ap request (sym here) ∙ reached-end c.bytes.result.now progress reaches.0 reaches.1 whole;
      left = ap Ok left;
    }
