use Rattle.std.proofs.Common.{◌≡◌, ◌+◌, ◌<◌, length, map, arith, sym, ap, inl, inr, ◌∙◌}
use Rattle.std.proofs.Math.Seq.{map-set_same}
use Rattle.std.proofs.lemmas.List.{length-set}
use Rattle.std.proofs.lemmas.Option.{slice_get_within}
use Rattle.xs_desk.specs.LaneEnds.{lane_of, handed_out}
use Rattle.xs_desk.proofs.Lists.{set-cases}
use Rattle.xs_desk.proofs.keeper.release_each.Goals as goal

pub loop-k-preserved : goal.loop-k-preserved
loop-k-preserved c =
    let items = c.loop-k.lane_ends.items in
    let k = c.loop-k.k in
    let s = c.index_mut-lane_end.result.now in
    let new = c.release.new.self in
    record {
      lanes = map-set_same lane_of items k new s (c.release.ensures.lane ∙ ap lane_of c.index_mut-lane_end.ensures.value) ∙ c.loop-k.invariant.lanes;
      count = length-set items k new ∙ c.loop-k.invariant.count;
      handed = λ j lane_end lt at. elim (set-cases items k j new lane_end at) [
        | inl p ↦ ap handed_out p.1 ∙ c.release.ensures.handed ∙ sym (ap (λ l. l.sent) (ap lane_of p.1 ∙ c.release.ensures.lane))
        | inr p ↦ c.loop-k.invariant.handed j lane_end (omega (arith, lt, p.0)) p.1
      ];
    }

pub returns-clause-handed : goal.returns-clause-handed
returns-clause-handed c = λ k lane_end at.
    c.loop-k.invariant.handed k lane_end (omega (arith, slice_get_within c.loop-k.lane_ends.items k lane_end at, c.loop-k.invariant.count)) at
