use Rattle.std.proofs.Common.{◌≡◌, ◌++◌, take, map}
use Rattle.std.specs.List.{flat_map}
use Rattle.xs_resp.specs.ReplyItems.{tokens_of}
use Rattle.xs_keys.specs.ReplyParts.{id_reply}
use Rattle.xs_keys.proofs.showing.push_ids.Given as goal

-- the ids so far
abbrev pub invariant-loop-id : goal.invariant-loop-id
invariant-loop-id l = l.tokens ≡ l.fn.tokens ++ flat_map tokens_of (map id_reply (take l.id-index l.ids))
