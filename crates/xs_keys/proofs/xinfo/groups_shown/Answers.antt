use Rattle.std.proofs.Common.{length, ap, ◌∙◌}
use Rattle.xs_stream.specs.StreamContent.{state_of}
use Rattle.xs_resp.proofs.Wholeness.{filled-each}
use Rattle.xs_keys.specs.KeysRoom.{KeyInMemory}
use Rattle.xs_keys.specs.Inspecting.{group_reply}
use Rattle.xs_keys.proofs.WholeReplies.{group-whole}
use Rattle.xs_keys.proofs.xinfo.groups_shown.Goals as goal

pub new-requires : goal.new-requires
new-requires c =
    let slot = c.args.slot.now in
    let state = state_of slot.stream in
    let counted = c.len-count.ensures.value ∙ ap (λ (s : KeyInMemory). length s.groups.entries) c.slot.view_is in
    filled-each (group_reply state) (group-whole state) slot.groups.entries _ _ _ counted c.in_ok-tokens.ensures c.in_ok-push_groups.ensures
