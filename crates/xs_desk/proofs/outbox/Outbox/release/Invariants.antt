use Rattle.std.proofs.Common.{◌≡◌, length}
use Rattle.xs_desk.specs.Outbox.{given}
use Rattle.xs_desk.specs.Rings.{producer_ring}
use Rattle.xs_desk.proofs.outbox.Outbox.release.Given as goal

abbrev pub invariant-loop-answer : goal.invariant-loop-answer
invariant-loop-answer l = record {
  given : given l.self ≡ given l.fn.self;
  ring : producer_ring l.self.ring ≡ producer_ring l.fn.self.ring;
}

abbrev pub decreases-loop-answer : goal.decreases-loop-answer
decreases-loop-answer l = length l.self.held_back.items
