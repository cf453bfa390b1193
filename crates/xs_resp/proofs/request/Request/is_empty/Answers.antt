use Rattle.std.proofs.Common.{length, sym, ap, ◌∙◌, nat_eq}
use Rattle.xs_resp.proofs.Fronts.{words-count}
use Rattle.xs_resp.proofs.request.Request.is_empty.Goals as goal

pub returns : goal.returns
returns c =
    let count = words-count c.self.inside.count c.self.inside.bytes.now c.self.invariant.0 in
    ap (λ n. nat_eq n 0) (sym count ∙ ap length c.self.view_is)
