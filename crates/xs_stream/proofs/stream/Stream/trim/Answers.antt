use Rattle.std.proofs.Common.{length, not, ap, arith}
use Rattle.xs_stream.specs.StreamContent.{is_trimmed, ids_of}
use Rattle.xs_stream.specs.Blocks.{all_of}
use Rattle.xs_stream.proofs.InOrder.{length-filter-le, valid-filter}
use Rattle.xs_stream.proofs.stream.Stream.trim.Goals as goal

pub overflow_sub-result : goal.overflow_sub-result
overflow_sub-result c =
    let all = all_of c.self.inside.entries in
    let kept = ap length c.trim.ensures.entries in
    let fewer = length-filter-le (λ e. not (is_trimmed c.args.trim (ids_of all) e.0)) all in
    omega (arith, c.self.invariant.laid_down.counted, c.trim.ensures.laid_down.counted)

pub invariant_of-self : goal.invariant_of-self
invariant_of-self c =
    let inside = c.self.inside in
    let all = all_of inside.entries in
    record {
      valid = rw c.trim.ensures.entries (valid-filter inside.top all (λ e. not (is_trimmed c.args.trim (ids_of all) e.0)) c.self.invariant.valid);
      few = c.self.invariant.few;
      laid_down = c.trim.ensures.laid_down;
      filed_up_to_top = c.trim.ensures.filed_up_to_top inside.top c.self.invariant.filed_up_to_top;
    }

pub returns-clause-count : goal.returns-clause-count
returns-clause-count c =
    let all = all_of c.self.inside.entries in
    let kept = ap length c.trim.ensures.entries in
    let fewer = length-filter-le (λ e. not (is_trimmed c.args.trim (ids_of all) e.0)) all in
    rw (← c.self.view_is) (omega (arith, c.self.invariant.laid_down.counted, c.trim.ensures.laid_down.counted))
