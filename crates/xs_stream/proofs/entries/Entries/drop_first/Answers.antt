use Rattle.std.proofs.Common.{◌∙◌}
use Rattle.xs_stream.proofs.entries.Entries.drop_first.Goals as goal

pub loop-left-preserved : goal.loop-left-preserved
loop-left-preserved c = record {
  entries = c.drop_step-left.ensures.entries ∙ c.loop-left.invariant.entries;
  laid_down = c.drop_step-left.ensures.laid_down;
  filed_up_to_top = λ top up. c.drop_step-left.ensures.filed_up_to_top top (c.loop-left.invariant.filed_up_to_top top up);
}
