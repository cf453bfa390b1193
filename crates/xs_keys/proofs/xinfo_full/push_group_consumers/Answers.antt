use Rattle.std.proofs.Common.{◌≡◌, ◌++◌, codes, map, OnOk, subst, arith}
use Rattle.std.specs.List.{flat_map}
use Rattle.xs_resp.specs.ReplyItems.{tokens_of}
use Rattle.xs_keys.specs.InspectingInFull.{whole_consumer_reply, listed_part}
use Rattle.xs_keys.proofs.Appending.{array-last}
use Rattle.xs_keys.proofs.xinfo_full.push_group_consumers.Goals as goal

pub returns : goal.returns
returns c =
    let before = c.args.tokens.now in
    let shown = whole_consumer_reply c.args.asked.now.moment c.args.asked.now.limit c.args.group.now in
    subst (λ cs. OnOk c.push_consumers.result (c.push_consumers.new.tokens ≡ before ++ flat_map tokens_of (listed_part (codes "consumers") (map shown cs)))) c.in_ok-consumers.ensures
    (array-last c.push_consumers.result shown c.in_ok-consumers.consumers.items c.len.result before _ _ _ _ (omega (arith, c.len.ensures, c.in_ok-consumers.consumers.ok.0)) c.in_ok-push_bulk.ensures.ok c.in_ok-push_array.ensures.ok c.push_consumers.ensures)
