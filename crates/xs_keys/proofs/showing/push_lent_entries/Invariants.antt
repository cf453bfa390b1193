use Rattle.std.proofs.Common.{◌≡◌, ◌++◌, take, map}
use Rattle.std.specs.List.{flat_map}
use Rattle.xs_resp.specs.ReplyItems.{tokens_of}
use Rattle.xs_keys.specs.ReplyParts.{present_reply}
use Rattle.xs_keys.proofs.showing.push_lent_entries.Given as goal

-- the entries so far
abbrev pub invariant-loop-entry : goal.invariant-loop-entry
invariant-loop-entry l = l.tokens ≡ l.fn.tokens ++ flat_map tokens_of (map present_reply (take l.entry-index l.entries))
