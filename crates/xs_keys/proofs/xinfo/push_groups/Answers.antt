use Rattle.std.proofs.Common.{◌≡◌, ◌++◌, ◌∷◌, List, ℕ, map, sym, ap, ◌∙◌, append_assoc, append-nil}
use Rattle.std.specs.List.{flat_map}
use Rattle.xs_stream.specs.StreamContent.{state_of}
use Rattle.xs_group.specs.GroupState.{GroupState}
use Rattle.xs_resp.specs.Token.{Token}
use Rattle.xs_resp.specs.ReplyItems.{tokens_of}
use Rattle.xs_keys.specs.Terms.{StreamState}
use Rattle.xs_keys.specs.Inspecting.{group_reply}
use Rattle.xs_keys.proofs.xinfo.push_groups.Goals as goal

abbrev shown : StreamState → List (List ℕ × GroupState) → List Token
shown stream groups = flat_map tokens_of (map (group_reply stream) groups)

pub loop-name-init : goal.loop-name-init
loop-name-init c =
    rw (← c.slot.view_is) (ap (λ groups. c.args.tokens.now ++ shown (state_of c.slot.inside.stream) groups) (c.into_iter-name-iterator.ensures.into_iter_gives ∙ c.iter-name-items.ensures))

pub loop-name-preserved : goal.loop-name-preserved
loop-name-preserved c =
    let state = state_of c.slot.inside.stream in
    let steps : c.loop-name.name-iterator ≡ (c.in-Some.name.now, c.in-Some.group.now) ∷ c.next.new.self = c.in-Some.ensures.steps in
    let before = rw (← c.slot.view_is) at c.loop-name.invariant in
    rw (← c.slot.view_is)
    (ap (λ tokens. tokens ++ shown state c.next.new.self) c.in_ok-push_group.ensures
    ∙ append_assoc c.loop-name.tokens (tokens_of (group_reply state (c.in-Some.name.now, c.in-Some.group.now))) (shown state c.next.new.self)
    ∙ ap (λ groups. c.loop-name.tokens ++ shown state groups) (sym steps) ∙ before)

pub returns : goal.returns
returns c =
    let state = state_of c.slot.inside.stream in
    let before = rw (← c.slot.view_is) at c.loop-name.invariant in
    rw (← c.slot.view_is) (sym (append-nil c.loop-name.tokens) ∙ ap (λ groups. c.loop-name.tokens ++ shown state groups) (sym c.in-None.ensures.steps.0) ∙ before)
