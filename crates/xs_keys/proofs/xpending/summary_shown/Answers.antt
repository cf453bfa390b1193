use Rattle.std.proofs.Common.{[], ◌∷◌, map, refl}
use Rattle.xs_resp.proofs.Wholeness.{filled, grown}
use Rattle.xs_keys.specs.Terms.{Reply, Int, NullBulk, option_map_or}
use Rattle.xs_keys.specs.ReplyParts.{array_or_null, id_reply, owner_reply}
use Rattle.xs_keys.proofs.WholeReplies.{summary-whole}
use Rattle.xs_keys.proofs.xpending.summary_shown.Goals as goal

pub new-requires : goal.new-requires
new-requires c =
    let summary = c.args.summary in
    let total : Reply = Int summary.total in
    let least : Reply = option_map_or id_reply summary.least NullBulk in
    let greatest : Reply = option_map_or id_reply summary.greatest NullBulk in
    let owners : Reply = array_or_null (map owner_reply c.into_vec-owners.result.items) in
    let first = grown [] total _ _ c.in_ok-tokens.ensures c.in_ok-push_int.ensures.ok in
    let second = grown (total ∷ []) least _ _ first c.in_ok-push_id_or_null.ensures in
    let third = grown (total ∷ least ∷ []) greatest _ _ second c.in_ok-push_id_or_null-2.ensures in
    let fourth = grown (total ∷ least ∷ greatest ∷ []) owners _ _ third c.in_ok-push_owners.ensures in
    filled (total ∷ least ∷ greatest ∷ owners ∷ []) 4 [] c.push_owners.new.tokens (summary-whole summary c.into_vec-owners.result.items) refl refl fourth
