use Rattle.std.proofs.Common.{arith}
use Rattle.xs_keys.specs.InspectingInFull.{own_row_reply}
use Rattle.xs_keys.proofs.Appending.{appended, array-last}
use Rattle.xs_keys.proofs.xinfo_full.push_consumer.Goals as goal

pub returns : goal.returns
returns c =
    let before = c.args.tokens.now in
    let name = appended before _ _ _ _ c.in_ok-push_bulk.ensures.ok (rw c.as_slice.ensures at c.in_ok-push_bulk-2.ensures.ok) in
    let seen = appended before _ _ _ _ name (rw c.get.ensures.value at c.in_ok-push_number.ensures) in
    let counted = appended before _ _ _ _ seen c.in_ok-push_bulk-3.ensures.ok in
    let count = appended before _ _ _ _ counted c.in_ok-push_int.ensures.ok in
    let named = appended before _ _ _ _ count c.in_ok-push_bulk-4.ensures.ok in
    array-last c.push_own_rows.result own_row_reply c.args.rows.items c.len.result before _ _ _ _ (omega (arith, c.len.ensures, c.args.rows.ok.0)) named c.in_ok-push_array.ensures.ok c.push_own_rows.ensures
