use Rattle.std.proofs.Common.{◌≡◌, true, arith}
use Rattle.xs_stream.specs.Id.{is_below}
use Rattle.xs_stream.specs.ConsistentStream.{IsId}
use Rattle.xs_stream.specs.Blocks.{all_of, block_ids}
use Rattle.xs_stream.proofs.InOrder.{valid-push, up_to-higher}
use Rattle.xs_stream.proofs.Past.{rank-below}
use Rattle.xs_stream.proofs.stream.Stream.push.Goals as goal

pub invariant_of-self : goal.invariant_of-self
invariant_of-self c =
    let inside = c.self.inside in
    let above : is_below inside.top c.args.id ≡ true = rw (← c.self.view_is) at c.requires in
    let fits : IsId c.args.id = (omega arith, omega arith) in
    record {
      valid = rw c.in-Ok.ensures.ok (valid-push inside.top (all_of inside.entries) c.args.id c.args.fields.now c.self.invariant.valid above fits);
      few = omega (arith, c.self.invariant.few, rank-below inside.top c.args.id c.self.invariant.valid.top_is_id.1 above);
      laid_down = c.push.ensures.laid_down;
      filed_up_to_top = up_to-higher (block_ids c.push.new.self) inside.top c.args.id c.push.ensures.filed_up_to_top above;
    }
