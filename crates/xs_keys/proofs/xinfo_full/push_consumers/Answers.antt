use Rattle.std.proofs.Common.{◌++◌, ◌∷◌, [], map, sym, ap, ◌∙◌, append-nil}
use Rattle.std.proofs.lemmas.List.{map-append}
use Rattle.std.specs.List.{flat_map}
use Rattle.xs_resp.specs.ReplyItems.{tokens_of}
use Rattle.xs_keys.specs.InspectingInFull.{whole_consumer_reply}
use Rattle.xs_keys.proofs.Appending.{parts-appended}
use Rattle.xs_keys.proofs.xinfo_full.push_consumers.Goals as goal

pub loop-consumer-preserved : goal.loop-consumer-preserved
loop-consumer-preserved c =
    let before = c.args.tokens.now in
    let shown = whole_consumer_reply c.args.asked.now.moment c.args.asked.now.limit c.args.group.now in
    let one = tokens_of (shown c.in-Some.consumer) in
    let more = c.in_ok-push_consumer_of.ensures ∙ ap (λ t. c.loop-consumer.tokens ++ t) (sym (append-nil one)) in
    parts-appended before c.loop-consumer.tokens c.push_consumer_of.new.tokens (map shown c.loop-consumer.yielded) (shown c.in-Some.consumer ∷ []) c.loop-consumer.invariant more
    ∙ ap (λ replies. before ++ flat_map tokens_of replies) (sym (map-append shown c.loop-consumer.yielded (c.in-Some.consumer ∷ [])))
