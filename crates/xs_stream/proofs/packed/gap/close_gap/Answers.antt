use Rattle.std.proofs.Common.{◌∙◌, arith}
use Rattle.xs_stream.proofs.Gaps.{piece-moved, piece-long}
use Rattle.xs_stream.proofs.packed.gap.close_gap.Goals as goal

pub loop-at-preserved : goal.loop-at-preserved
loop-at-preserved c =
    let was = c.loop-at.invariant in
    record {
      forward = omega (arith, was.forward);
      not_past = omega (arith, c.loop-at-test.true, c.min-piece.ensures);
      same_length = omega (arith, was.same_length, piece-long c.loop-at.bytes.items c.move_piece.new.bytes.items c.loop-at.at _ c.min-piece.result (omega arith) c.move_piece.ensures);
      around = piece-moved c.loop-at.bytes.items c.move_piece.new.bytes.items c.loop-at.at _ c.min-piece.result (omega arith) c.move_piece.ensures ∙ was.around;
    }
