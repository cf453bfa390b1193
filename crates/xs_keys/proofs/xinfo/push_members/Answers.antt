use Rattle.xs_keys.proofs.Appending.{appended, appended-last}
use Rattle.xs_keys.proofs.xinfo.push_members.Goals as goal

pub returns : goal.returns
returns c =
    let before = c.args.tokens.now in
    let named = c.in_ok-push_bulk.ensures.ok in
    let name = appended before _ _ _ _ named (rw c.as_slice.ensures at c.in_ok-push_bulk-2.ensures.ok) in
    let consumers = appended before _ _ _ _ name (rw c.count_consumers.ensures.value at c.in_ok-push_number.ensures) in
    appended-last c.push_number-2.result before _ _ _ _ consumers (rw c.count_pending.ensures.value at c.push_number-2.ensures)
