use Rattle.std.proofs.Common.{length, refl}
use Rattle.xs_keys.specs.ReplyParts.{present_reply}
use Rattle.xs_keys.proofs.Appending.{array-last}
use Rattle.xs_keys.proofs.xinfo_full.push_entries_part.Goals as goal

pub returns : goal.returns
returns c =
    array-last c.push_lent_entries.result present_reply c.args.entries.now (length c.args.entries.now) c.args.tokens.now _ _ _ _ refl c.in_ok-push_bulk.ensures.ok c.in_ok-push_array.ensures.ok c.push_lent_entries.ensures
