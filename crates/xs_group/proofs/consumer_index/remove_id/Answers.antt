use Rattle.xs_group.proofs.Terms.{sym, rules}
use Rattle.xs_group.proofs.consumer_index.remove_id.Goals as goal
use Rattle.xs_group.proofs.ByConsumer.{with_ids, seen-written, holds-removed, holds-absent}

pub returns-in-Some-clause-seen : goal.returns-in-Some-clause-seen
returns-in-Some-clause-seen c =
    let owner = with_ids c.in-Some.owner.now c.remove.new.self in
    seen-written c.args.owners.now (c.get_mut.follows.lender owner) c.args.name.now c.in-Some.owner.now c.remove.new.self (sym c.in-Some.ensures.value) ((c.get_mut.follows.holds owner).3 (search rules))

pub returns-in-Some-clause-ids : goal.returns-in-Some-clause-ids
returns-in-Some-clause-ids c =
    let owner = with_ids c.in-Some.owner.now c.remove.new.self in
    holds-removed c.args.owners.now (c.get_mut.follows.lender owner) c.args.name.now c.in-Some.owner.now c.remove.new.self (sym c.in-Some.ensures.value) ((c.get_mut.follows.holds owner).3 (search rules))
    c.args.id c.remove.ensures.updates

pub returns-in_default-clause-ids : goal.returns-in_default-clause-ids
returns-in_default-clause-ids c = holds-absent c.args.owners.now c.get_mut.follows.lender-at-none c.args.name.now c.get_mut.follows.holds-at-none (sym c.in_default.ensures.value) c.args.id
