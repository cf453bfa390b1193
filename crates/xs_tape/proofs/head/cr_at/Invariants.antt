use Rattle.std.proofs.Common.{take}
use Rattle.xs_resp.specs.Grammar.{HasNoCr}
use Rattle.xs_tape.proofs.head.cr_at.Given as goal

abbrev pub invariant-loop-at : goal.invariant-loop-at
invariant-loop-at l = HasNoCr (take l.at l.text)
