use Rattle.std.proofs.Common.{drop, sym, ap, ◌∙◌}
use Rattle.xs_stream.specs.Blocks.{all_of}
use Rattle.xs_stream.proofs.InOrder.{trimmed-min_id}
use Rattle.xs_stream.proofs.entries.Entries.drop_below.Goals as goal

pub loop-preserved : goal.loop-preserved
loop-preserved c = record {
  kept = c.drop_block_below.ensures.kept ∙ c.loop.invariant.kept;
  ascends = c.drop_block_below.ensures.ascends;
  laid_down = c.drop_block_below.ensures.laid_down;
  filed_up_to_top = λ top up. c.drop_block_below.ensures.filed_up_to_top top (c.loop.invariant.filed_up_to_top top up);
}

pub returns-clause-entries : goal.returns-clause-entries
returns-clause-entries c =
    let all = all_of c.drop_block_below.new.self in
    c.drop_first.ensures.entries ∙ ap (λ n. drop n all) c.count_below-count.ensures ∙ sym (trimmed-min_id c.args.low all c.drop_block_below.ensures.ascends) ∙ c.drop_block_below.ensures.kept ∙ c.loop.invariant.kept

pub returns-clause-filed_up_to_top : goal.returns-clause-filed_up_to_top
returns-clause-filed_up_to_top c = λ top up.
    c.drop_first.ensures.filed_up_to_top top (c.drop_block_below.ensures.filed_up_to_top top (c.loop.invariant.filed_up_to_top top up))
