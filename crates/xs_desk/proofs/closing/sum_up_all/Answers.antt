use Rattle.std.proofs.Common.{◌+◌, ◌<◌, length, map, arith, subst, sym, ◌∙◌, ap}
use Rattle.std.proofs.Math.Seq.{map-set_same}
use Rattle.std.proofs.lemmas.List.{length-set}
use Rattle.xs_desk.specs.LaneEnds.{lane_of}
use Rattle.xs_desk.specs.Callers.{HasEndOfLane}
use Rattle.xs_desk.specs.Closing.{SumUp}
use Rattle.xs_desk.proofs.Closings.{side-of, sum-up-more, same-ends}
use Rattle.xs_desk.proofs.closing.sum_up_all.Goals as goal

pub unreachable-requires : goal.unreachable-requires
unreachable-requires c =
    let lt : c.loop-k.k < length c.args.lane_ends.now.items = omega arith in
    c.in_default.ensures.none (subst (λ (es : _). HasEndOfLane es c.loop-k.k) (sym c.loop-k.invariant.ended) (c.requires.all c.loop-k.k lt))

pub sum_up-summary-requires-clause-side : goal.sum_up-summary-requires-clause-side
sum_up-summary-requires-clause-side c =
    let lt : c.loop-k.k < length c.loop-k.lane_ends.items = omega arith in
    (side-of c.loop-k.lane_ends.items _ _ c.loop-k.ended.items c.loop-k.k c.in-Some.at c.index_mut-lane_end.result.now c.index_mut-end.result.now c.requires.ends c.loop-k.invariant.ended c.loop-k.invariant.lane_ends lt c.index_mut-lane_end.ensures.value
    c.in-Some.ensures.found.0 c.index_mut-end.ensures.value c.in-Some.ensures.found.1).3

pub sum_up-summary-requires-clause-even : goal.sum_up-summary-requires-clause-even
sum_up-summary-requires-clause-even c =
    let lt : c.loop-k.k < length c.loop-k.lane_ends.items = omega arith in
    let side = side-of c.loop-k.lane_ends.items _ _ c.loop-k.ended.items c.loop-k.k c.in-Some.at c.index_mut-lane_end.result.now c.index_mut-end.result.now c.requires.ends c.loop-k.invariant.ended c.loop-k.invariant.lane_ends lt c.index_mut-lane_end.ensures.value
    c.in-Some.ensures.found.0 c.index_mut-end.ensures.value c.in-Some.ensures.found.1 in
    c.requires.even c.loop-k.k (lane_of c.index_mut-lane_end.result.now) side.0

pub loop-k-preserved : goal.loop-k-preserved
loop-k-preserved c =
    let lt : c.loop-k.k < length c.loop-k.lane_ends.items = omega arith in
    let side = side-of c.loop-k.lane_ends.items _ _ c.loop-k.ended.items c.loop-k.k c.in-Some.at c.index_mut-lane_end.result.now c.index_mut-end.result.now c.requires.ends c.loop-k.invariant.ended c.loop-k.invariant.lane_ends lt c.index_mut-lane_end.ensures.value
    c.in-Some.ensures.found.0 c.index_mut-end.ensures.value c.in-Some.ensures.found.1 in
    record {
      room = omega arith;
      lane_ends = map-set_same lane_of c.loop-k.lane_ends.items c.loop-k.k c.sum_up-summary.new.lane_end c.index_mut-lane_end.result.now (c.sum_up-summary.ensures.lane_end ∙ ap lane_of c.index_mut-lane_end.ensures.value) ∙ c.loop-k.invariant.lane_ends;
      count = length-set c.loop-k.lane_ends.items c.loop-k.k c.sum_up-summary.new.lane_end ∙ c.loop-k.invariant.count;
      ended = same-ends c.loop-k.ended.items c.in-Some.at c.index_mut-end.result.now c.sum_up-summary.new.end c.index_mut-end.ensures.value c.sum_up-summary.ensures.end ∙ c.loop-k.invariant.ended;
      summed = subst (λ (ss : _). SumUp (map lane_of c.args.lane_ends.now.items) c.args.ended.now.items (c.loop-k.k + 1) ss) (sym (rw c.if-is_err.ensures.negation at c.push.ensures.items))
          (sum-up-more _ _ _ c.loop-k.lanes.items _ c.in-Some.at _ c.sum_up-summary.result c.loop-k.invariant.summed side.0 side.1 side.2 c.sum_up-summary.ensures.summary);
    }
