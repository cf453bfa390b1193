use Rattle.xs_keys.proofs.Appending.{appended, appended-last}
use Rattle.xs_keys.proofs.xinfo.push_consumer.Goals as goal

pub returns : goal.returns
returns c =
    let before = c.args.tokens.now in
    let named = appended before _ _ _ _ c.in_ok-push_array.ensures.ok c.in_ok-push_bulk.ensures.ok in
    let name = appended before _ _ _ _ named (rw c.as_slice.ensures at c.in_ok-push_bulk-2.ensures.ok) in
    let counted = appended before _ _ _ _ name c.in_ok-push_bulk-3.ensures.ok in
    let pending = appended before _ _ _ _ counted c.in_ok-push_int.ensures.ok in
    let aged = appended before _ _ _ _ pending c.in_ok-push_bulk-4.ensures.ok in
    appended-last c.push_int-2.result before _ _ _ _ aged c.push_int-2.ensures.ok
