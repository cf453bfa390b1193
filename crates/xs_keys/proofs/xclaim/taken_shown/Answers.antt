use Rattle.std.proofs.Common.{refl}
use Rattle.xs_resp.proofs.Wholeness.{filled-each}
use Rattle.xs_keys.specs.ReplyParts.{taken_item}
use Rattle.xs_keys.proofs.WholeReplies.{item-whole}
use Rattle.xs_keys.proofs.xclaim.taken_shown.Goals as goal

pub new-requires : goal.new-requires
new-requires c =
    let entries = c.args.stream.now.entries in
    filled-each (taken_item c.args.just_id entries) (item-whole c.args.just_id entries) c.args.ids.now _ _ _ refl c.new-tokens.ensures c.in_ok-push_taken.ensures
