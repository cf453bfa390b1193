use Rattle.std.proofs.Common.{◌≡◌, ◌++◌, map}
use Rattle.std.specs.List.{flat_map}
use Rattle.xs_resp.specs.ReplyItems.{tokens_of}
use Rattle.xs_keys.specs.InspectingInFull.{own_row_reply}
use Rattle.xs_keys.proofs.xinfo_full.push_own_rows.Given as goal

-- the rows so far
abbrev pub invariant-loop-row : goal.invariant-loop-row
invariant-loop-row l = l.tokens ≡ l.fn.tokens ++ flat_map tokens_of (map own_row_reply l.yielded)
