use Rattle.std.proofs.Common.{arith}
use Rattle.xs_resp.proofs.Wholeness.{filled-each}
use Rattle.xs_keys.specs.Inspecting.{consumer_reply}
use Rattle.xs_keys.proofs.WholeReplies.{consumer-whole}
use Rattle.xs_keys.proofs.xinfo.consumers_shown.Goals as goal

pub new-requires : goal.new-requires
new-requires c =
    filled-each consumer_reply consumer-whole c.args.consumers.items _ _ _ (omega (arith, c.len-count.ensures, c.args.consumers.ok.0)) c.in_ok-tokens.ensures c.in_ok-push_consumers.ensures
