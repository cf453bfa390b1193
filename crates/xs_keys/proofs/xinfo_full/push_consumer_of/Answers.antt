use Rattle.std.proofs.Common.{◌≡◌, ◌++◌, Some, OnOk, ap, ◌∙◌, subst}
use Rattle.std.specs.List.{flat_map}
use Rattle.xs_resp.specs.ReplyItems.{tokens_of}
use Rattle.xs_keys.specs.Terms.{pending_of}
use Rattle.xs_keys.specs.Inspecting.{whole_range}
use Rattle.xs_keys.specs.InspectingInFull.{consumer_part}
use Rattle.xs_keys.proofs.Appending.{appended-last}
use Rattle.xs_keys.proofs.xinfo_full.push_consumer_of.Goals as goal

pub returns : goal.returns
returns c =
    let before = c.args.tokens.now in
    let consumer = c.args.consumer in
    let is = c.in_ok-rows.ensures ∙ ap (λ m. pending_of whole_range 0 c.args.asked.now.moment m (Some consumer.consumer) c.args.group.now) c.most.ensures in
    appended-last c.push_consumer.result before _ _ _ _ c.in_ok-push_array.ensures.ok
    (subst (λ rs. OnOk c.push_consumer.result (c.push_consumer.new.tokens ≡ c.push_array.new.self ++ flat_map tokens_of (consumer_part consumer rs))) is c.push_consumer.ensures)
