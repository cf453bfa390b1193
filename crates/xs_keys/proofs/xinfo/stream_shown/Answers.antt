use Rattle.std.proofs.Common.{◌≡◌, List, ◌++◌, refl, ap, ◌∙◌}
use Rattle.std.specs.List.{flat_map}
use Rattle.xs_stream.specs.StreamContent.{state_of}
use Rattle.xs_resp.specs.Token.{Token}
use Rattle.xs_resp.specs.ReplyItems.{tokens_of}
use Rattle.xs_resp.proofs.Wholeness.{filled}
use Rattle.xs_keys.specs.Terms.{Reply, Array}
use Rattle.xs_keys.specs.Inspecting.{size_part, past_part, ends_part}
use Rattle.xs_keys.proofs.Appending.{appended}
use Rattle.xs_keys.proofs.WholeReplies.{stream-whole}
use Rattle.xs_keys.proofs.xinfo.stream_shown.Goals as goal

pub new-requires : goal.new-requires
new-requires c =
    let stream = c.slot.inside.stream in
    let first = c.in_ok-first.first in
    let last = c.in_ok-last.last in
    let shown : List Reply = size_part stream.entries ++ (past_part (state_of stream) c.first_id.result ++ ends_part c.len.result first last) in
    let before = c.in_ok-tokens.tokens in
    let past = appended before _ _ _ _ c.in_ok-push_size.ensures c.in_ok-push_past.ensures in
    let all = appended before _ _ _ _ past c.in_ok-push_ends.ensures in
    filled shown 20 before c.push_ends.new.tokens (stream-whole stream.entries (state_of stream) c.first_id.result c.len.result first last) refl c.in_ok-tokens.ensures all

pub returns : goal.returns
returns c =
    let stream = c.slot.inside.stream in
    let before = c.in_ok-tokens.tokens in
    let past = appended before _ _ _ _ c.in_ok-push_size.ensures c.in_ok-push_past.ensures in
    let all = appended before _ _ _ _ past c.in_ok-push_ends.ensures in
    let shown : List Reply = size_part stream.entries ++ (past_part (state_of stream) c.first_id.result ++ ends_part c.len.result c.in_ok-first.first c.in_ok-last.last) in
    let tokens : c.push_ends.new.tokens ≡ flat_map tokens_of shown = all ∙ ap (λ t. t ++ flat_map tokens_of shown) c.in_ok-tokens.ensures in
    rw (← c.slot.view_is, c.new.ensures)
    (ap (λ (t : List Token). Array (record { count = 20; tokens = t })) tokens ∙ rw (c.first_id.ensures, c.len.ensures.value, c.in_ok-first.ensures.entries, c.in_ok-last.ensures.entries) refl)
