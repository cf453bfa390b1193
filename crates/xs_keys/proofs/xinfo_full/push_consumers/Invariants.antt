use Rattle.std.proofs.Common.{◌≡◌, ◌++◌, map}
use Rattle.std.specs.List.{flat_map}
use Rattle.xs_resp.specs.ReplyItems.{tokens_of}
use Rattle.xs_keys.specs.InspectingInFull.{whole_consumer_reply}
use Rattle.xs_keys.proofs.xinfo_full.push_consumers.Given as goal

-- the consumers so far
abbrev pub invariant-loop-consumer : goal.invariant-loop-consumer
invariant-loop-consumer l =
    l.tokens ≡ l.fn.tokens ++ flat_map tokens_of (map (whole_consumer_reply l.asked.moment l.asked.limit l.group) l.yielded)
