use Rattle.std.proofs.Common.{length, sym, ap, ◌∙◌, arith, length-append}
use Rattle.std.specs.declared.ops.Bound.TheVariants.{Excluded, Unbounded}
use Rattle.xs_stream.specs.Blocks.{contents, entries_of_blocks, all_of}
use Rattle.xs_stream.proofs.Contents.{contents-between}
use Rattle.xs_stream.proofs.CountedPast.{from-split}
use Rattle.xs_stream.proofs.CountedBelow.{below-walk}
use Rattle.xs_stream.proofs.entries.Entries.count_below.Goals as goal

pub loop-under-init : goal.loop-under-init
loop-under-init c =
    let all = c.args.self.now in
    let front = contents-between Unbounded (Excluded c.args.low) all.older.entries ∙ sym (ap contents (c.range-blocks.ensures.between tt)) ∙ ap contents (sym c.into_iter-under-iterator.ensures.into_iter_gives) in
    omega (arith, c.count_beside-count.ensures, below-walk c.args.low (contents all.older.entries) all.newest.entries c.requires.filed, ap (λ bs. length (entries_of_blocks bs)) front)

pub overflow_add-count : goal.overflow_add-count
overflow_add-count c =
    let all = c.args.self.now in
    let left = ap (λ bs. length (entries_of_blocks (contents bs))) c.in-Some.ensures.steps
    ∙ length-append c.in-Some.block.now.entries (entries_of_blocks (contents c.next.new.self)) in
    omega (arith, c.loop-under.invariant, left, c.len-count.ensures, from-split c.args.low (all_of all), c.requires.counted, c.requires.small)

pub loop-under-preserved : goal.loop-under-preserved
loop-under-preserved c =
    let left = ap (λ bs. length (entries_of_blocks (contents bs))) c.in-Some.ensures.steps
    ∙ length-append c.in-Some.block.now.entries (entries_of_blocks (contents c.next.new.self)) in
    omega (arith, c.loop-under.invariant, left, c.len-count.ensures)

pub returns : goal.returns
returns c = omega (arith, c.loop-under.invariant, ap (λ bs. length (entries_of_blocks (contents bs))) c.in-None.ensures.steps.0)
