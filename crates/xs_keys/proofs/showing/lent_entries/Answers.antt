use Rattle.std.proofs.Common.{refl}
use Rattle.xs_resp.proofs.Wholeness.{filled-each}
use Rattle.xs_keys.specs.ReplyParts.{present_reply}
use Rattle.xs_keys.proofs.WholeReplies.{present-whole}
use Rattle.xs_keys.proofs.showing.lent_entries.Goals as goal

pub new-requires : goal.new-requires
new-requires c =
    filled-each present_reply present-whole c.args.entries.now _ _ _ refl c.new-tokens.ensures c.in_ok-push_lent_entries.ensures
