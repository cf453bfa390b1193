use Rattle.std.proofs.Common.{◌≡◌, false, arith}
use Rattle.xs_stream.specs.Id.{is_below}
use Rattle.xs_stream.specs.Blocks.{all_of, block_ids}
use Rattle.xs_stream.specs.StreamContent.{ids_of}
use Rattle.xs_stream.proofs.InOrder.{up_to-not_lower}
use Rattle.xs_stream.proofs.stream.Stream.restore.Goals as goal

pub invariant_of-self : goal.invariant_of-self
invariant_of-self c =
    let inside = c.self.inside in
    let valid = c.self.invariant.valid in
    let later : is_below c.args.top inside.top ≡ false = grind arith in
    record {
      valid = record {
        consistent = record {
          ascends = valid.consistent.ascends;
          up_to_top = up_to-not_lower (ids_of (all_of inside.entries)) inside.top c.args.top valid.consistent.up_to_top later;
        };
        top_is_id = (omega arith, omega arith);
        are_ids = valid.are_ids;
        above_zero = valid.above_zero;
      };
      few = omega arith;
      laid_down = c.self.invariant.laid_down;
      filed_up_to_top = up_to-not_lower (block_ids inside.entries) inside.top c.args.top c.self.invariant.filed_up_to_top later;
    }
