use Rattle.std.proofs.Common.{length, sym, ap, ◌∙◌}
use Rattle.xs_resp.proofs.Fronts.{words-count}
use Rattle.xs_resp.proofs.request.Request.len.Goals as goal

pub returns-clause-count : goal.returns-clause-count
returns-clause-count c =
    sym (words-count c.self.inside.count c.self.inside.bytes.now c.self.invariant.0) ∙ ap length c.self.view_is
