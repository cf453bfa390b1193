use Rattle.std.proofs.Common.{◌≡◌, ℕ, true, List, take, bytes_eq, Bor}
use Rattle.std.specs.List.{list_any}
use Rattle.std.specs.Ordering.{nat_cmp}
use Rattle.std.specs.Cmp.Lexicographic.{slice_cmp}
use Rattle.std.specs.BTreeSet.{contains}
use Rattle.xs_command.specs.Streams.{is_distinct}
use Rattle.xs_command.proofs.xreadgroup.is_distinct.Given as goal

-- the words so far differ, and the set has them
abbrev pub invariant-loop-key : goal.invariant-loop-key
invariant-loop-key l =
    (is_distinct (take l.key-index l.keys) ≡ true)
    × ((q : Bor (List ℕ)) → contains (λ a b. slice_cmp nat_cmp a.now b.now) l.seen q ≡ list_any (bytes_eq q.now) (take l.key-index l.keys))
