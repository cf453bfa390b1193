use Rattle.xs_group.proofs.Terms.{◌≡◌, List, Id, false, list_any, has_id, has_name, change, PendingList, Some, sym, ap, ◌∙◌, ◌+◌, length, GroupState, ids_of, with_name, reread_ids, row_after_reread, set_rows, shown_rows}
use Rattle.xs_group.proofs.Terms.{arith, common_steps}
use Rattle.xs_group.proofs.group.Group.history.Goals as goal
use Rattle.xs_group.specs.GroupRoom.{bytes_of_names}
use Rattle.xs_group.proofs.CountedNames.{counted-made}
use Rattle.xs_group.proofs.RemovedRows.{up_to-change}
use Rattle.xs_group.proofs.UndoneReads.{made-history}
use Rattle.xs_group.proofs.Ordered.{is-consistent}
use Rattle.xs_group.proofs.NewRows.{given-then, name-there}
use Rattle.xs_group.proofs.Touching.{rows-reread, any-shown}

-- the ids that are shown
abbrev shown : (c : goal.After-drop-ids-inside-2) → List Id
shown c = reread_ids c.args.consumer.now c.args.limit c.args.from c.self.inside.pending.rows.entries

left : (c : goal.After-drop-ids-inside-2) → c.redeliver.new.self ≡ record {
  consumers = with_name c.self.inside.pending.consumers c.args.consumer.now c.args.now (list_any (has_id (ids_of c.args.stream.now.entries)) (shown c));
  rows = change (row_after_reread c.args.now (shown c) (ids_of c.args.stream.now.entries)) c.self.inside.pending.rows;
}
left c =
    let held = c.self.inside.pending in
    let present = ids_of c.args.stream.now.entries in
    let given = list_any (has_id present) (shown c) in
    let is : c.as_slice-5.result.now ≡ shown_rows held.rows present (shown c) = c.as_slice-5.ensures.value ∙ c.in_ok-rows.ensures ∙ ap (shown_rows held.rows present) (c.as_slice-3.ensures ∙ c.in_ok-ids.ensures) in
    c.redeliver.ensures ∙ ap (λ (h : PendingList). record { consumers = with_name h.consumers c.args.consumer.now c.args.now (list_any (λ r. r.present) c.as_slice-5.result.now); rows = set_rows (Some c.args.now) c.as_slice-5.result.now h.rows }) c.in_ok-created.ensures.ok
    ∙ ap (λ rs. record { consumers = with_name (with_name held.consumers c.args.consumer.now c.args.now false) c.args.consumer.now c.args.now (list_any (λ r. r.present) rs); rows = set_rows (Some c.args.now) rs held.rows }) is
    ∙ (λ i. record { consumers = with_name (with_name held.consumers c.args.consumer.now c.args.now false) c.args.consumer.now c.args.now (any-shown held.rows present (shown c) i); rows = rows-reread c.args.now present (shown c) held.rows i })
    ∙ ap (λ consumers. record { consumers = consumers; rows = change (row_after_reread c.args.now (shown c) present) held.rows }) (given-then held.consumers c.args.consumer.now c.args.now given)

pub redeliver-requires : goal.redeliver-requires
redeliver-requires c = ap (λ (h : PendingList). has_name h.consumers c.args.consumer.now) c.in_ok-created.ensures.ok ∙ name-there c.self.inside.pending.consumers c.args.consumer.now c.args.now false

pub returns-clause-ok : goal.returns-clause-ok
returns-clause-ok c = rw (← c.self.view_is) (ap (λ (h : PendingList). record { cursor = c.self.inside.cursor; consumers = h.consumers; rows = h.rows }) (left c))

pub invariant_of-self-2 : goal.invariant_of-self-2
invariant_of-self-2 c =
    let held = c.self.inside.pending in
    let present = ids_of c.args.stream.now.entries in
    rw (left c) (record {
      up_to_cursor = up_to-change (row_after_reread c.args.now (shown c) present) c.self.inside.cursor held.rows c.self.invariant.up_to_cursor;
      names_counted = counted-made held.consumers c.args.consumer.now c.args.now (list_any (has_id present) (shown c)) c.in_ok-created.created c.self.inside.name_bytes c.in_ok-name_bytes.name_bytes c.either-self-inside.result
          c.self.invariant.names_counted (c.in_ok-name_bytes.ensures ∙ ap (λ (g : GroupState). bytes_of_names g.consumers + length c.args.consumer.now) (sym c.self.view_is))
          c.in_ok-created.ensures.made c.either-self-inside.ensures;
    })

pub returns-clause-answer : goal.returns-clause-answer
returns-clause-answer c = grind (arith, common_steps)

pub returns-clause-undoable : goal.returns-clause-undoable
returns-clause-undoable c =
    let consistent = is-consistent c.self.inside.cursor c.self.inside.pending c.self.invariant.up_to_cursor c.in_ok-created.ensures.named in
    made-history c.args.self.now _ _ c.args.consumer.now c.args.now c.args.limit c.args.from (ids_of c.args.stream.now.entries)
    (rw (← c.self.view_is) consistent) (returns-clause-ok c) (returns-clause-answer c)
