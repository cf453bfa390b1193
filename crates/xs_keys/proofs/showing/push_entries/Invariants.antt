use Rattle.std.proofs.Common.{◌≡◌, ◌++◌, take, map}
use Rattle.std.specs.List.{flat_map}
use Rattle.xs_resp.specs.ReplyItems.{tokens_of}
use Rattle.xs_keys.specs.ReplyParts.{entry_reply}
use Rattle.xs_keys.proofs.showing.push_entries.Given as goal

-- the entries so far
abbrev pub invariant-loop-place : goal.invariant-loop-place
invariant-loop-place l = l.tokens ≡ l.fn.tokens ++ flat_map tokens_of (map (entry_reply l.stream.entries) (take l.place l.ids))
