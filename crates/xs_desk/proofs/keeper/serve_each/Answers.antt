use Rattle.std.proofs.Common.{◌+◌, ◌<◌, ◌≤◌, ◌∙◌, length, arith, rules, refl}
use Rattle.std.proofs.lemmas.List.{length-set}
use Rattle.xs_desk.specs.LaneEnds.{desk_of, lane_of}
use Rattle.xs_desk.proofs.Turning.{turns-few}
use Rattle.xs_desk.proofs.Notings.{turn-none, turn-on}
use Rattle.xs_desk.proofs.Looking.{lane_end-at, rests-place, rests-turns, rests-places, answers-turns, answers-places}
use Rattle.xs_desk.proofs.keeper.serve_each.Goals as goal

pub loop-k-init : goal.loop-k-init
loop-k-init g c = record {
  turned = turn-on g.J.Journal.has g.C.Clock.gives _ _ _ _ _ _ _ _ _ _ _ (turn-none g.J.Journal.has g.C.Clock.gives _ _ _ _) (omega arith);
  room = c.requires;
  start = refl;
  lanes = refl;
  within = search rules;
}

pub serve-requires : goal.serve-requires
serve-requires g c =
    let k = c.in-Some.k in
    let s = c.index_mut-lane_end.result.now in
    let lt : k < length c.loop-k.lane_ends.items = omega (arith, c.in-Some.ensures.1, c.min.ensures, c.len-in-loop-k.ensures) in
    c.loop-k.invariant.room k (lane_of s) (lane_end-at c.loop-k.lane_ends.items k s lt c.index_mut-lane_end.ensures.value)

pub overflow_add-served : goal.overflow_add-served
overflow_add-served g c =
    let few = turns-few _ _ _ _ _ _ _ c.loop-k.invariant.turned.turns in
    let lt : c.in-Some.k < length c.loop-k.lane_ends.items = omega (arith, c.in-Some.ensures.1, c.min.ensures, c.len-in-loop-k.ensures) in
    omega (arith, few, lt, c.in-Some.ensures.0)

pub returns-in-Exhausted : goal.returns-in-Exhausted
returns-in-Exhausted g c =
    let k = c.in-Some.k in
    let s = c.index_mut-lane_end.result.now in
    let lt : k < length c.loop-k.lane_ends.items = omega (arith, c.in-Some.ensures.1, c.min.ensures, c.len-in-loop-k.ensures) in
    let le : c.loop-k.next ≤ length c.args.lane_ends.now.items = omega (arith, c.loop-k.invariant.within, c.loop-k.invariant.lanes) in
    let rests = c.in-Exhausted.ensures.looks.0 in
    let place = rests-place g.C.Clock.gives g.J.Journal.has (desk_of c.args.lane_ends.now.items c.args.keyspace.now c.args.place.now (g.J.Journal.start c.args.journal.now)) c.args.clock.now c.args.journal.now c.args.lane_ends.now.items c.loop-k.served _ _ s c.serve.new.self _ _ _ _ _ _ _ _ (g.J.Journal.start c.args.journal.now) lt c.index_mut-lane_end.ensures.value rests in
    record {
      turned = (
        c.loop-k.served,
        turn-on _ _ _ _ _ _ _ _ _ _ _ _ _ (rests-turns _ _ _ _ _ _ _ _ _ s c.serve.new.self _ _ _ _ _ _ _ _ _ lt c.index_mut-lane_end.ensures.value _ c.loop-k.invariant.turned rests) le,
        omega (arith, place, c.in-Exhausted.ensures.looks.1),
      );
      start = c.serve.ensures.start ∙ c.loop-k.invariant.start;
    }

pub loop-k-preserved-in-Idle : goal.loop-k-preserved-in-Idle
loop-k-preserved-in-Idle g c =
    let k = c.in-Some.k in
    let s = c.index_mut-lane_end.result.now in
    let h = c.index_mut-lane_end.ensures.value in
    let lt : k < length c.loop-k.lane_ends.items = omega (arith, c.in-Some.ensures.1, c.min.ensures, c.len-in-loop-k.ensures) in
    let le : c.loop-k.next ≤ k + 1 = omega (arith, c.in-Some.ensures.0) in
    let n = length-set c.loop-k.lane_ends.items k c.serve.new.self in record {
      turned = turn-on _ _ _ _ _ _ _ _ _ _ _ _ _ (rests-turns _ _ _ _ _ _ _ _ _ s c.serve.new.self _ _ _ _ _ _ _ _ _ lt h _ c.loop-k.invariant.turned c.in-Idle.ensures.looks) le;
      room = rests-places g.C.Clock.gives g.J.Journal.has (desk_of c.args.lane_ends.now.items c.args.keyspace.now c.args.place.now (g.J.Journal.start c.args.journal.now)) c.args.clock.now c.args.journal.now c.args.lane_ends.now.items c.loop-k.served _ _ s c.serve.new.self _ _ _ _ _ _ _ _ (g.J.Journal.start c.args.journal.now) lt h c.loop-k.invariant.room c.in-Idle.ensures.looks;
      start = c.serve.ensures.start ∙ c.loop-k.invariant.start;
      lanes = omega (arith, n, c.loop-k.invariant.lanes);
      within = omega (arith, n, lt);
    }

pub loop-k-preserved-in-Blocked : goal.loop-k-preserved-in-Blocked
loop-k-preserved-in-Blocked g c =
    let k = c.in-Some.k in
    let s = c.index_mut-lane_end.result.now in
    let h = c.index_mut-lane_end.ensures.value in
    let lt : k < length c.loop-k.lane_ends.items = omega (arith, c.in-Some.ensures.1, c.min.ensures, c.len-in-loop-k.ensures) in
    let le : c.loop-k.next ≤ k + 1 = omega (arith, c.in-Some.ensures.0) in
    let n = length-set c.loop-k.lane_ends.items k c.serve.new.self in record {
      turned = turn-on _ _ _ _ _ _ _ _ _ _ _ _ _ (rests-turns _ _ _ _ _ _ _ _ _ s c.serve.new.self _ _ _ _ _ _ _ _ _ lt h _ c.loop-k.invariant.turned c.in-Blocked.ensures.looks) le;
      room = rests-places g.C.Clock.gives g.J.Journal.has (desk_of c.args.lane_ends.now.items c.args.keyspace.now c.args.place.now (g.J.Journal.start c.args.journal.now)) c.args.clock.now c.args.journal.now c.args.lane_ends.now.items c.loop-k.served _ _ s c.serve.new.self _ _ _ _ _ _ _ _ (g.J.Journal.start c.args.journal.now) lt h c.loop-k.invariant.room c.in-Blocked.ensures.looks;
      start = c.serve.ensures.start ∙ c.loop-k.invariant.start;
      lanes = omega (arith, n, c.loop-k.invariant.lanes);
      within = omega (arith, n, lt);
    }

pub loop-k-preserved-then-found_call : goal.loop-k-preserved-then-found_call
loop-k-preserved-then-found_call g c =
    let k = c.in-Some.k in
    let s = c.index_mut-lane_end.result.now in
    let h = c.index_mut-lane_end.ensures.value in
    let lt : k < length c.loop-k.lane_ends.items = omega (arith, c.in-Some.ensures.1, c.min.ensures, c.len-in-loop-k.ensures) in
    let le : c.loop-k.next ≤ k = c.in-Some.ensures.0 in
    let n = length-set c.loop-k.lane_ends.items k c.serve.new.self in record {
      turned = answers-turns _ _ _ _ _ _ _ _ _ s c.serve.new.self _ _ _ _ _ _ _ _ _ lt h (turn-on _ _ _ _ _ _ _ _ _ _ _ _ k c.loop-k.invariant.turned le) c.in-Served.ensures.looks;
      room = answers-places g.C.Clock.gives g.J.Journal.has (desk_of c.args.lane_ends.now.items c.args.keyspace.now c.args.place.now (g.J.Journal.start c.args.journal.now)) c.args.clock.now c.args.journal.now c.args.lane_ends.now.items c.loop-k.served _ _ s c.serve.new.self _ _ _ _ _ _ _ _ (g.J.Journal.start c.args.journal.now) lt h c.loop-k.invariant.room c.in-Served.ensures.looks;
      start = c.serve.ensures.start ∙ c.loop-k.invariant.start;
      lanes = omega (arith, n, c.loop-k.invariant.lanes);
      within = omega (arith, n, lt);
    }

pub loop-k-preserved : goal.loop-k-preserved
loop-k-preserved g c =
    let k = c.in-Some.k in
    let s = c.index_mut-lane_end.result.now in
    let h = c.index_mut-lane_end.ensures.value in
    let lt : k < length c.loop-k.lane_ends.items = omega (arith, c.in-Some.ensures.1, c.min.ensures, c.len-in-loop-k.ensures) in
    let le : c.loop-k.next ≤ k = c.in-Some.ensures.0 in
    let n = length-set c.loop-k.lane_ends.items k c.serve.new.self in record {
      turned = answers-turns _ _ _ _ _ _ _ _ _ s c.serve.new.self _ _ _ _ _ _ _ _ _ lt h (turn-on _ _ _ _ _ _ _ _ _ _ _ _ k c.loop-k.invariant.turned le) c.in-Served.ensures.looks;
      room = answers-places g.C.Clock.gives g.J.Journal.has (desk_of c.args.lane_ends.now.items c.args.keyspace.now c.args.place.now (g.J.Journal.start c.args.journal.now)) c.args.clock.now c.args.journal.now c.args.lane_ends.now.items c.loop-k.served _ _ s c.serve.new.self _ _ _ _ _ _ _ _ (g.J.Journal.start c.args.journal.now) lt h c.loop-k.invariant.room c.in-Served.ensures.looks;
      start = c.serve.ensures.start ∙ c.loop-k.invariant.start;
      lanes = omega (arith, n, c.loop-k.invariant.lanes);
      within = omega (arith, n, lt);
    }

pub returns : goal.returns
returns g c = record {
  turned = turn-on _ _ _ _ _ _ _ _ _ _ _ _ _ c.loop-k.invariant.turned (omega (arith, c.loop-k.invariant.within, c.loop-k.invariant.lanes));
  start = c.loop-k.invariant.start;
}
