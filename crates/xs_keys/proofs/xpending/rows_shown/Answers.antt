use Rattle.std.proofs.Common.{arith}
use Rattle.xs_resp.proofs.Wholeness.{filled-each}
use Rattle.xs_keys.specs.ReplyParts.{row_reply}
use Rattle.xs_keys.proofs.WholeReplies.{row-whole}
use Rattle.xs_keys.proofs.xpending.rows_shown.Goals as goal

pub new-requires : goal.new-requires
new-requires c =
    filled-each row_reply row-whole c.args.rows.items _ _ _ (omega (arith, c.len-count.ensures, c.args.rows.ok.0)) c.in_ok-tokens.ensures c.in_ok-push_rows.ensures
