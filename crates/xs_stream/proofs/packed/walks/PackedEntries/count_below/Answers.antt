use Rattle.std.proofs.Common.{◌∙◌, sym, arith}
use Rattle.xs_stream.specs.Id.{is_below}
use Rattle.xs_stream.specs.PackedText.{first_text}
use Rattle.xs_stream.proofs.Order.{partial-below}
use Rattle.xs_stream.proofs.PackedBlocks.{count-taken, count-left}
use Rattle.xs_stream.proofs.packed.walks.PackedEntries.count_below.Goals as goal
use Rattle.xs_stream.proofs.packed.walks.PackedEntries.count_below.Goals.{then-lt, else-lt}

pub loop-preserved : goal.loop-preserved
loop-preserved c =
    let entry = c.read_entry-entry in
    let packed = c.args.self.now in let names = first_text packed.bytes.now in
    let low = c.args.low in
    elim c.if-lt.branch [
      | then-lt w ↦
          let taken = count-taken (λ x. is_below x low) packed.base names packed.count c.loop.counter entry.result.id c.loop.rest.now entry.result.rest.now c.loop-test.true entry.ensures.id entry.ensures.rest
          (sym (partial-below _ _) ∙ sym c.lt.ensures ∙ w.if-lt.true) in
          record {
            all = omega (arith, w.below-is, taken, c.loop.invariant.all);
            few = omega (arith, w.below-is, c.loop.invariant.few);
          }
      | else-lt w ↦
          let left = count-left (λ x. is_below x low) packed.base names packed.count c.loop.counter entry.result.id c.loop.rest.now entry.result.rest.now c.loop-test.true entry.ensures.id entry.ensures.rest
          (sym (partial-below _ _) ∙ sym c.lt.ensures ∙ w.if-lt.false) in
          record {
            all = omega (arith, w.below-is, left, c.loop.invariant.all);
            few = omega (arith, w.below-is, c.loop.invariant.few);
          }
    ]
