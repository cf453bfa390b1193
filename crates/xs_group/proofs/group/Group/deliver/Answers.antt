use Rattle.xs_group.proofs.Terms.{sym, ap, ◌∙◌, subst, AllAbove, ids_of, rules, new_rows, new_ids, GroupState, List, Id, get}
use Rattle.xs_group.proofs.group.Group.deliver.Goals as goal
use Rattle.xs_group.proofs.UndoneReads.{made-delivery}
use Rattle.xs_group.proofs.Cursors.{new_ids-above}

pub receive-requires-clause-above : goal.receive-requires-clause-above
receive-requires-clause-above c =
    rw (← c.self.view_is) (subst (AllAbove c.self.inside.cursor) (sym (c.as_slice-4.ensures ∙ c.in_ok-ids.ensures ∙ ap ids_of c.as_slice.ensures ∙ c.in_ok-entries.ensures.ids))
    (new_ids-above c.args.limit c.self.inside.cursor (ids_of c.args.stream.now.entries)))

pub returns-clause-answer : goal.returns-clause-answer
returns-clause-answer c =
    let ids : GroupState → List Id = λ g. new_ids c.args.limit g.cursor (ids_of c.args.stream.now.entries) in
    λ i. record {
      consumer = (c.in_ok-text.ensures ∙ c.as_slice-3.ensures) i;
      created = c.in_ok-created.ensures.made i;
      seen_before = (c.seen_at-seen_before.ensures ∙ ap (λ (g : GroupState). get g.consumers c.args.consumer.now) c.self.view_is) i;
      cursor_before = (c.self.view_is i).cursor;
      kind = c.kind_of.ensures i;
      rows = (c.new.ensures ∙ c.in_ok-rows.ensures ∙ ap new_rows (c.as_slice-2.ensures ∙ c.in_ok-ids.ensures ∙ ap ids_of c.as_slice.ensures ∙ c.in_ok-entries.ensures.ids ∙ ap ids c.self.view_is)) i;
    }

pub returns-clause-ok : goal.returns-clause-ok
returns-clause-ok c = search rules

pub returns-clause-undoable : goal.returns-clause-undoable
returns-clause-undoable c =
    made-delivery c.args.self.now _ _ c.args.consumer.now c.args.now c.args.limit c.args.noack (ids_of c.args.stream.now.entries)
    c.in_ok-created.ensures.consistent (returns-clause-ok c) (returns-clause-answer c)
