use Rattle.std.proofs.Common.{arith, length, ap, ◌∙◌, length-append}
use Rattle.xs_stream.specs.Blocks.{contents, entries_of_blocks}
use Rattle.xs_stream.specs.CountState.{total_of}
use Rattle.xs_stream.proofs.block_count.BlockCount.count_next.Goals as goal

pub loop-block-init : goal.loop-block-init
loop-block-init c = (ap total_of c.self.view_is, omega (arith, ap (λ s. length s.left) c.self.view_is))

pub overflow_add-self : goal.overflow_add-self
overflow_add-self c =
    let left = ap (λ bs. length (entries_of_blocks (contents bs))) c.in-Some.ensures.steps
    ∙ length-append c.in-Some.block.now.entries (entries_of_blocks (contents c.next.new.self)) in
    omega (arith, c.loop-block.invariant.0, left, c.len.ensures, c.requires.fits)

pub returns-in-None-clause-counted : goal.returns-in-None-clause-counted
returns-in-None-clause-counted c =
    omega (
      arith,
      c.loop-block.invariant.0,
      ap (λ bs. length (entries_of_blocks (contents bs))) c.in-None.ensures.steps.0,
      ap (λ bs. length (entries_of_blocks (contents bs))) c.in-None.ensures.steps.1,
    )

pub loop-block-preserved : goal.loop-block-preserved
loop-block-preserved c =
    let left = ap (λ bs. length (entries_of_blocks (contents bs))) c.in-Some.ensures.steps
    ∙ length-append c.in-Some.block.now.entries (entries_of_blocks (contents c.next.new.self)) in
    (omega (arith, c.loop-block.invariant.0, left, c.len.ensures), omega (arith, c.loop-block.invariant.1, ap length c.in-Some.ensures.steps))

pub returns-clause-counted : goal.returns-clause-counted
returns-clause-counted c = c.loop-block.invariant.0

pub returns-clause-most : goal.returns-clause-most
returns-clause-most c = λ is. omega (arith, c.loop-block.invariant.1, c.loop-block-test.false, c.loop-block.auto._block-end)
