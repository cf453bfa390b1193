use Rattle.xs_keys.proofs.Appending.{appended, appended-last}
use Rattle.xs_keys.proofs.xinfo.push_past.Goals as goal

pub returns : goal.returns
returns c =
    let before = c.args.tokens.now in
    let top = appended before _ _ _ _ c.in_ok-push_bulk.ensures.ok (rw c.top.ensures.value at c.in_ok-push_id.ensures) in
    let deleted = appended before _ _ _ _ top c.in_ok-push_bulk-2.ensures.ok in
    let id = appended before _ _ _ _ deleted (rw c.deleted.ensures at c.in_ok-push_id-2.ensures) in
    let added = appended before _ _ _ _ id (rw (c.reported_number-added.ensures.value, c.added.ensures) at c.in_ok-push_number.ensures) in
    let first = appended before _ _ _ _ added c.in_ok-push_bulk-3.ensures.ok in
    appended-last c.push_id-3.result before _ _ _ _ first c.push_id-3.ensures
