use Rattle.std.proofs.Common.{◌≡◌, ◌++◌, map}
use Rattle.std.specs.List.{flat_map}
use Rattle.xs_stream.specs.StreamContent.{state_of}
use Rattle.xs_resp.specs.ReplyItems.{tokens_of}
use Rattle.xs_keys.specs.Inspecting.{group_reply}
use Rattle.xs_keys.proofs.xinfo.push_groups.Given as goal

-- what is appended so far and for the rest is all
abbrev pub invariant-loop-name : goal.invariant-loop-name
invariant-loop-name l =
    let shown = group_reply (state_of l.slot.stream) in
    l.tokens ++ flat_map tokens_of (map shown l.name-iterator) ≡ l.fn.tokens ++ flat_map tokens_of (map shown l.slot.groups.entries)
