use Rattle.std.proofs.Common.{◌≡◌, ◌++◌, length, None, OnOk, ap, ◌∙◌, subst, arith}
use Rattle.std.specs.List.{flat_map}
use Rattle.xs_resp.specs.ReplyItems.{tokens_of}
use Rattle.xs_keys.specs.Terms.{pending_of}
use Rattle.xs_keys.specs.Inspecting.{whole_range}
use Rattle.xs_keys.specs.InspectingInFull.{row_reply, rows_part}
use Rattle.xs_keys.proofs.Appending.{appended, array-last}
use Rattle.xs_keys.proofs.xinfo_full.push_group_rows.Goals as goal

pub returns : goal.returns
returns c =
    let before = c.args.tokens.now in
    let group = c.args.group.now in
    let rows = c.in_ok-rows.rows.items in
    let is = c.in_ok-rows.ensures ∙ ap (λ m. pending_of whole_range 0 c.args.asked.now.moment m None group) c.most.ensures in
    let named = appended before _ _ _ _ (rw c.count_pending.ensures.value at c.in_ok-push_number.ensures) c.in_ok-push_bulk.ensures.ok in
    subst (λ rs. OnOk c.push_rows.result (c.push_rows.new.tokens ≡ before ++ flat_map tokens_of (rows_part (length group.rows.entries) rs))) is
    (array-last c.push_rows.result row_reply rows c.len.result before _ _ _ _ (omega (arith, c.len.ensures, c.in_ok-rows.rows.ok.0)) named c.in_ok-push_array.ensures.ok c.push_rows.ensures)
