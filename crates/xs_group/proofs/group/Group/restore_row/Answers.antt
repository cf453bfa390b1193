use Rattle.xs_group.proofs.Terms.{◌≡◌, true, false, is_below, RowState, arith}
use Rattle.xs_group.specs.NextRow.{is_past_rows}
use Rattle.xs_group.proofs.NextRows.{free-past, row-behind, up_to-next}
use Rattle.xs_group.proofs.group.Group.restore_row.Goals as goal

pub put-requires-clause-free : goal.put-requires-clause-free
put-requires-clause-free c =
    let past : is_past_rows c.args.id c.self.inside.pending.rows ≡ true = grind arith in
    free-past c.self.inside.pending.rows c.args.id past

pub invariant_of-self-2 : goal.invariant_of-self-2
invariant_of-self-2 c =
    let inside = c.self.inside in
    let up : is_below inside.cursor c.args.id ≡ false = grind arith in
    rw c.in_ok-put.ensures.ok (record {
      up_to_cursor = up_to-next inside.cursor c.args.id _ inside.pending.rows c.self.invariant.up_to_cursor up;
      names_counted = c.self.invariant.names_counted;
    })

pub returns-clause-behind : goal.returns-clause-behind
returns-clause-behind c =
    let past : is_past_rows c.args.id c.self.inside.pending.rows ≡ true = grind arith in
    let row : RowState = record { consumer = c.args.consumer.now; time = c.args.time; count = c.args.count } in
    grind (arith, row-behind c.self.inside.pending.rows c.args.id row past)
