use Rattle.std.proofs.Common.{length, ap, ◌∙◌}
use Rattle.xs_stream.specs.StreamContent.{state_of}
use Rattle.xs_keys.specs.KeysRoom.{KeyInMemory}
use Rattle.xs_keys.specs.InspectingInFull.{whole_group_reply}
use Rattle.xs_keys.proofs.Appending.{array-last}
use Rattle.xs_keys.proofs.xinfo_full.push_groups_part.Goals as goal

pub returns : goal.returns
returns c =
    let slot = c.args.slot.now in
    let counted = c.len.ensures.value ∙ ap (λ (s : KeyInMemory). length s.groups.entries) c.slot.view_is in
    array-last c.push_groups.result (whole_group_reply c.args.asked.now.moment c.args.asked.now.limit (state_of slot.stream)) slot.groups.entries c.len.result c.args.tokens.now _ _ _ _ counted
    c.in_ok-push_bulk.ensures.ok c.in_ok-push_array.ensures.ok c.push_groups.ensures
