use Rattle.std.proofs.Common.{◌≡◌, ◌++◌, map, length, ◌∷◌}
use Rattle.std.specs.List.{flat_map}
use Rattle.xs_resp.specs.ReplyItems.{tokens_of}
use Rattle.xs_resp.specs.Token.{Array}
use Rattle.xs_keys.specs.ReplyParts.{owner_reply}
use Rattle.xs_keys.proofs.xpending.push_owners.Given as goal

-- the header and the consumers so far
abbrev pub invariant-loop-owner : goal.invariant-loop-owner
invariant-loop-owner l = l.tokens ≡ l.fn.tokens ++ (Array (length l.fn.owners.items) ∷ flat_map tokens_of (map owner_reply l.yielded))
