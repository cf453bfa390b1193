use Rattle.std.proofs.Common.{[], ◌∷◌, map, refl, sym}
use Rattle.std.proofs.lemmas.List.{length-map}
use Rattle.xs_resp.specs.WholeReplies.{AreWhole}
use Rattle.xs_resp.proofs.Wholeness.{filled, grown}
use Rattle.xs_keys.specs.Terms.{Reply}
use Rattle.xs_keys.specs.ReplyParts.{array, id_reply, taken_item, taken_reply}
use Rattle.xs_keys.proofs.WholeReplies.{taken-whole, ids-whole, grown-array}
use Rattle.xs_keys.proofs.xautoclaim.scan_shown.Goals as goal

pub new-requires : goal.new-requires
new-requires c =
    let scan = c.args.scan.now in
    let taken_ids = c.as_slice-taken.result.now in
    let removed_ids = c.as_slice-removed.result.now in
    let item = taken_item c.args.just_id c.args.stream.now.entries in
    let cursor : Reply = id_reply scan.cursor in
    let taken : Reply = taken_reply c.args.just_id c.args.stream.now.entries taken_ids in
    let removed : Reply = array (map id_reply removed_ids) in
    let first = grown [] cursor _ _ c.new-tokens.ensures c.in_ok-push_id.ensures in
    let second = grown-array (cursor ∷ []) (map item taken_ids) _ _ _ _ first c.in_ok-push_array.ensures.ok (sym (length-map taken_ids item)) c.in_ok-push_taken.ensures in
    let third = grown-array (cursor ∷ taken ∷ []) (map id_reply removed_ids) _ _ _ _ second c.in_ok-push_array-2.ensures.ok (sym (length-map removed_ids id_reply)) c.in_ok-push_ids.ensures in
    let whole : AreWhole (cursor ∷ taken ∷ removed ∷ []) = (tt, (taken-whole c.args.just_id c.args.stream.now.entries taken_ids, (ids-whole removed_ids, tt))) in
    filled (cursor ∷ taken ∷ removed ∷ []) 3 [] c.push_ids.new.tokens whole refl refl third
