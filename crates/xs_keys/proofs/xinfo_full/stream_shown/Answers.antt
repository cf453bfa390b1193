use Rattle.std.proofs.Common.{◌≡◌, ℕ, Option, List, ◌++◌, codes, map, refl, sym, ap, ◌∙◌}
use Rattle.std.specs.List.{flat_map}
use Rattle.xs_stream.specs.StreamContent.{state_of}
use Rattle.xs_resp.specs.Token.{Token}
use Rattle.xs_resp.specs.ReplyItems.{tokens_of}
use Rattle.xs_resp.proofs.Wholeness.{filled}
use Rattle.xs_keys.specs.KeysRoom.{KeyInMemory, key_state_of}
use Rattle.xs_keys.specs.Terms.{Reply, Array}
use Rattle.xs_keys.specs.ReplyParts.{present_reply}
use Rattle.xs_keys.specs.Inspecting.{size_part, past_part}
use Rattle.xs_keys.specs.InspectingInFull.{listed_part, whole_group_reply, whole_stream_reply}
use Rattle.xs_keys.proofs.Appending.{parts-appended}
use Rattle.xs_keys.proofs.WholeStreams.{stream-whole}
use Rattle.xs_keys.proofs.xinfo_full.stream_shown.Goals as goal

-- tokens with the groups of a key after them
abbrev shown_groups : List Token → ℕ → Option ℕ → KeyInMemory → List Token
shown_groups tokens now limit key =
    tokens ++ flat_map tokens_of (listed_part (codes "groups") (map (whole_group_reply now limit (state_of key.stream)) key.groups.entries))

pub new-requires : goal.new-requires
new-requires c =
    let stream = c.slot.inside.stream in
    let state = state_of stream in
    let now = c.args.asked.now.moment in
    let limit = c.args.asked.now.limit in
    let before = c.in_ok-tokens.tokens in
    let size : List Reply = size_part stream.entries in
    let past : List Reply = past_part (state_of stream) c.first_id.result in
    let shown : List Reply = listed_part (codes "entries") (map present_reply c.in_ok-entries.entries) in
    let groups : List Reply = listed_part (codes "groups") (map (whole_group_reply now limit state) c.slot.inside.groups.entries) in
    let so_far = parts-appended before _ _ size past c.in_ok-push_size.ensures c.in_ok-push_past.ensures in
    let listed = parts-appended before _ _ (size ++ past) shown so_far (rw c.as_slice.ensures at c.in_ok-push_entries_part.ensures) in
    let all = parts-appended before _ _ ((size ++ past) ++ shown) groups listed (c.in_ok-push_groups_part.ensures ∙ ap (shown_groups c.push_entries_part.new.tokens now limit) (sym c.slot.view_is)) in
    filled (size ++ (past ++ (shown ++ groups))) 18 before c.push_groups_part.new.tokens
    (stream-whole now limit stream.entries c.in_ok-entries.entries (state_of stream) c.first_id.result c.slot.inside.groups.entries) refl c.in_ok-tokens.ensures all

pub returns : goal.returns
returns c =
    let stream = c.slot.inside.stream in
    let state = state_of stream in
    let now = c.args.asked.now.moment in
    let limit = c.args.asked.now.limit in
    let before = c.in_ok-tokens.tokens in
    let size : List Reply = size_part stream.entries in
    let past : List Reply = past_part (state_of stream) c.first_id.result in
    let shown : List Reply = listed_part (codes "entries") (map present_reply c.in_ok-entries.entries) in
    let groups : List Reply = listed_part (codes "groups") (map (whole_group_reply now limit state) c.slot.inside.groups.entries) in
    let so_far = parts-appended before _ _ size past c.in_ok-push_size.ensures c.in_ok-push_past.ensures in
    let listed = parts-appended before _ _ (size ++ past) shown so_far (rw c.as_slice.ensures at c.in_ok-push_entries_part.ensures) in
    let all = parts-appended before _ _ ((size ++ past) ++ shown) groups listed (c.in_ok-push_groups_part.ensures ∙ ap (shown_groups c.push_entries_part.new.tokens now limit) (sym c.slot.view_is)) in
    let told : List Reply = size ++ (past ++ (shown ++ groups)) in
    let tokens : c.push_groups_part.new.tokens ≡ flat_map tokens_of told = all ∙ ap (λ t. t ++ flat_map tokens_of told) c.in_ok-tokens.ensures in
    let key : KeyInMemory = record { stream = stream; groups = c.slot.inside.groups } in
    let is : Array (record { count = 18; tokens = flat_map tokens_of told }) ≡ whole_stream_reply now limit (key_state_of key) =
    rw (c.first_id.ensures, c.in_ok-first.ensures.entries, c.in_ok-entries.ensures.entries) refl in
    rw c.new.ensures
    (ap (λ (t : List Token). Array (record { count = 18; tokens = t })) tokens ∙ is ∙ ap (λ (k : KeyInMemory). whole_stream_reply now limit (key_state_of k)) c.slot.view_is)
