use Rattle.std.proofs.Common.{◌≡◌, ◌≤◌, ◌-◌, length}
use Rattle.xs_desk.specs.Durable.{NotesTurn}
use Rattle.xs_desk.specs.KeeperTurns.{HasPlaces}
use Rattle.xs_desk.specs.LaneEnds.{desk_of}
use Rattle.xs_desk.proofs.keeper.serve_each.Given as goal

-- the lanes below the next one have had their turn
abbrev pub invariant-loop-k : goal.invariant-loop-k
invariant-loop-k g l = record {
  turned : NotesTurn g.J.Journal.has g.C.Clock.gives (desk_of l.fn.lane_ends.items l.fn.keyspace l.fn.place (g.J.Journal.start l.fn.journal)) l.fn.clock l.fn.journal l.fn.lane_ends.items l.served l.next (desk_of l.lane_ends.items l.keyspace l.place (g.J.Journal.start l.fn.journal)) l.clock l.journal l.lane_ends.items;
  room : HasPlaces (desk_of l.lane_ends.items l.keyspace l.place (g.J.Journal.start l.fn.journal));
  start : g.J.Journal.start l.journal ≡ g.J.Journal.start l.fn.journal;
  lanes : length l.lane_ends.items ≡ length l.fn.lane_ends.items;
  within : l.next ≤ length l.lane_ends.items;
}

abbrev pub decreases-loop-k : goal.decreases-loop-k
decreases-loop-k g l = length l.lane_ends.items - l.next
