use Rattle.std.proofs.Common.{◌≡◌, List, map, ap, ◌∙◌, subst, IfOk}
use Rattle.xs_stream.specs.StreamContent.{AreEntriesOf}
use Rattle.xs_keys.specs.Terms.{Reply}
use Rattle.xs_keys.specs.ReplyParts.{array, present_reply}
use Rattle.xs_keys.proofs.PresentEntries.{lent-within}
use Rattle.xs_keys.proofs.xrange.range_shown.Goals as goal

pub returns : goal.returns
returns c =
    let command = c.args.command.now in
    let entries = c.args.stream.now.entries in
    let is = c.in_ok-entries.ensures.entries in
    let lent = ap (map present_reply) (c.as_slice.ensures ∙ is) ∙ lent-within command.range command.reversed command.limit entries (subst (AreEntriesOf entries) is c.in_ok-entries.ensures.found) in
    subst (λ (replies : List Reply). IfOk c.lent_entries.result (λ reply. reply ≡ array replies)) lent c.lent_entries.ensures
