use Rattle.xs_keys.proofs.Appending.{appended, appended-last}
use Rattle.xs_keys.proofs.xinfo.push_progress.Goals as goal

pub returns : goal.returns
returns c =
    let before = c.args.tokens.now in
    let named = c.in_ok-push_bulk.ensures.ok in
    let cursor = appended before _ _ _ _ named c.in_ok-push_id.ensures in
    let read = appended before _ _ _ _ cursor c.in_ok-push_bulk-2.ensures.ok in
    let told = appended before _ _ _ _ read c.in_ok-push_read.ensures in
    appended-last c.push_number.result before _ _ _ _ told (rw c.count_past-lag.ensures.value at c.push_number.ensures)
