use Rattle.xs_group.proofs.Terms.{sym, rules, on_ok_weaker, on_err_weaker}
use Rattle.xs_group.proofs.consumer_index.put_ids.Goals as goal
use Rattle.xs_group.proofs.ByConsumer.{with_ids, seen-written, holds-put}

pub returns-clause-seen : goal.returns-clause-seen
returns-clause-seen c =
    let owner = with_ids c.in-Some.owner.now c.insert_ids.new.own in
    seen-written c.args.owners.now (c.get_mut.follows.lender owner) c.args.name.now c.in-Some.owner.now c.insert_ids.new.own (sym c.in-Some.ensures.value) ((c.get_mut.follows.holds owner).3 (search rules))

pub returns-clause-ok : goal.returns-clause-ok
returns-clause-ok c =
    let owner = with_ids c.in-Some.owner.now c.insert_ids.new.own in
    on_ok_weaker c.insert_ids.result
    (holds-put c.args.owners.now (c.get_mut.follows.lender owner) c.args.name.now c.in-Some.owner.now c.insert_ids.new.own (sym c.in-Some.ensures.value) ((c.get_mut.follows.holds owner).3 (search rules)) c.args.ids.now)
    c.insert_ids.ensures.ok

pub returns-clause-err : goal.returns-clause-err
returns-clause-err c =
    let owner = with_ids c.in-Some.owner.now c.insert_ids.new.own in
    on_err_weaker c.insert_ids.result (λ w. (
      w.0,
      w.1,
      holds-put c.args.owners.now (c.get_mut.follows.lender owner) c.args.name.now c.in-Some.owner.now c.insert_ids.new.own (sym c.in-Some.ensures.value) ((c.get_mut.follows.holds owner).3 (search rules)) w.0 w.2,
    )) c.insert_ids.ensures.err
