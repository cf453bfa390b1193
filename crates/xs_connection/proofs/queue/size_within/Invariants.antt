use Rattle.std.proofs.Common.{◌≡◌, ◌≤◌, take}
use Rattle.xs_connection.specs.QueueRoom.{size_of}
use Rattle.xs_connection.proofs.queue.size_within.Given as goal

-- the bytes of the words so far
abbrev pub invariant-loop-word : goal.invariant-loop-word
invariant-loop-word l = record {
  size : l.size ≡ size_of (take l.word-index l.words);
  fits : l.size ≤ l.most;
}
