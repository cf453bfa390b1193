use Rattle.std.proofs.Common.{length, not, ap, arith}
use Rattle.xs_stream.specs.Id.{has_id}
use Rattle.xs_stream.specs.Blocks.{all_of}
use Rattle.xs_stream.proofs.InOrder.{length-filter-le, valid-filter}
use Rattle.xs_stream.proofs.stream.Stream.delete.Goals as goal

pub overflow_sub-result : goal.overflow_sub-result
overflow_sub-result c =
    let kept = ap length c.remove_all-self-inside.ensures.entries in
    let fewer = length-filter-le (λ e. not (has_id c.args.ids.now e.0)) (all_of c.self.inside.entries) in
    omega (arith, c.self.invariant.laid_down.counted, c.remove_all-self-inside.ensures.laid_down.counted)

pub invariant_of-self : goal.invariant_of-self
invariant_of-self c =
    let inside = c.self.inside in
    record {
      valid = rw c.remove_all-self-inside.ensures.entries (valid-filter inside.top (all_of inside.entries) (λ e. not (has_id c.args.ids.now e.0)) c.self.invariant.valid);
      few = c.self.invariant.few;
      laid_down = c.remove_all-self-inside.ensures.laid_down;
      filed_up_to_top = c.remove_all-self-inside.ensures.filed_up_to_top inside.top c.self.invariant.filed_up_to_top;
    }

pub returns-clause-count : goal.returns-clause-count
returns-clause-count c =
    let kept = ap length c.remove_all-self-inside.ensures.entries in
    let fewer = length-filter-le (λ e. not (has_id c.args.ids.now e.0)) (all_of c.self.inside.entries) in
    rw (← c.self.view_is) (omega (arith, c.self.invariant.laid_down.counted, c.remove_all-self-inside.ensures.laid_down.counted))
