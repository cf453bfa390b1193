use Rattle.std.proofs.Common.{◌≡◌, ◌++◌, take, map}
use Rattle.std.specs.List.{flat_map}
use Rattle.xs_resp.specs.ReplyItems.{tokens_of}
use Rattle.xs_group.specs.Deliveries.{row_ids}
use Rattle.xs_keys.specs.ReplyParts.{entry_reply}
use Rattle.xs_keys.proofs.xreadgroup.push_rows.Given as goal

-- the entries so far
abbrev pub invariant-loop-place : goal.invariant-loop-place
invariant-loop-place l = l.tokens ≡ l.fn.tokens ++ flat_map tokens_of (map (entry_reply l.stream.entries) (row_ids (take l.place l.rows)))
