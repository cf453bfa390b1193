use Rattle.std.proofs.Common.{◌≡◌, true, take}
use Rattle.xs_keys.specs.Terms.{list_all, get}
use Rattle.xs_keys.specs.Waiting.{knows_reader_in}
use Rattle.xs_keys.proofs.in_vain.all_know_reader.Given as goal

-- each group so far knows the reader
abbrev pub invariant-loop-one : goal.invariant-loop-one
invariant-loop-one l =
    list_all (λ one. knows_reader_in l.read (get l.keys one.key)) (take l.one-index l.one-items) ≡ true
