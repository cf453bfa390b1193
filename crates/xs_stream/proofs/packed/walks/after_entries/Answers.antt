use Rattle.std.proofs.Common.{sym, ap, ◌∙◌}
use Rattle.xs_stream.specs.Packed.{after_entry}
use Rattle.xs_stream.proofs.PackedBlocks.{after_entries-more}
use Rattle.xs_stream.proofs.packed.walks.after_entries.Goals as goal

pub loop-preserved : goal.loop-preserved
loop-preserved c = c.read_entry.ensures.rest ∙ ap after_entry c.loop.invariant ∙ sym (after_entries-more c.loop.counter c.args.bytes.now)
