use Rattle.std.proofs.Common.{◌≡◌, ◌++◌, map}
use Rattle.std.specs.List.{flat_map}
use Rattle.xs_resp.specs.ReplyItems.{tokens_of}
use Rattle.xs_keys.specs.Inspecting.{consumer_reply}
use Rattle.xs_keys.proofs.xinfo.push_consumers.Given as goal

-- the consumers so far
abbrev pub invariant-loop-consumer : goal.invariant-loop-consumer
invariant-loop-consumer l = l.tokens ≡ l.fn.tokens ++ flat_map tokens_of (map consumer_reply l.yielded)
