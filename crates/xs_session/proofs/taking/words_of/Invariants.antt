use Rattle.std.proofs.Common.{◌≡◌, IfOk}
use Rattle.xs_session.proofs.taking.words_of.Given as goal

-- the last copy is that of the words
abbrev pub invariant-loop : goal.invariant-loop
invariant-loop l = IfOk l.copied (λ found. found ≡ l.fn.words)
