use Rattle.std.proofs.Common.{◌≡◌, ap, ◌∙◌, below_more}
use Rattle.std.specs.Prelude.{not, is_some, true}
use Rattle.xs_desk.specs.Callers.{HasEndOfLane}
use Rattle.xs_desk.proofs.Closings.{found-when}
use Rattle.xs_desk.proofs.closing.has_all.Goals as goal

pub loop-k-preserved : goal.loop-k-preserved
loop-k-preserved c =
    let some : is_some c.end_of.result ≡ true = c.is_none.ensures ∙ ap not c.if-is_none.false in
    let f = found-when c.end_of.result _ c.end_of.ensures.found some in
    below_more (λ j. HasEndOfLane c.args.ended.now.items j) c.loop-k.k c.loop-k.invariant (f.0, f.1.1.0, f.1.1.1, f.1.1.2)
