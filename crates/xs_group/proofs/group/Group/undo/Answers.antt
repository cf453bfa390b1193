use Rattle.xs_group.proofs.Terms.{◌≡◌, ℕ, Bool, Option, is_some, not, arith, cond, sym, ap, ◌∙◌, subst, GroupState, IsUpTo}
use Rattle.xs_group.proofs.group.Group.undo.Goals as goal
use Rattle.xs_group.proofs.CountedNames.{counted-undone, within-undone}
use Rattle.xs_group.proofs.UndoneReads.{undone, undone-before}

none_is : (is_none : Bool) (seen : Option ℕ) → is_some seen ≡ not is_none → is_none ≡ not (is_some seen)
none_is is_none seen e = grind arith

pub returns : goal.returns
returns c = λ before made.
    ap (λ held. record { cursor = c.args.delivery.cursor_before; consumers = held.consumers; rows = held.rows }) c.undo.ensures
    ∙ ap (undone c.args.delivery) c.self.view_is ∙ undone-before before c.args.self.now c.args.delivery made

pub invariant_of-self : goal.invariant_of-self
invariant_of-self c =
    let before = c.requires.0 in
    let made = c.requires.1 in
    let is : record { cursor = c.args.delivery.cursor_before; consumers = c.undo.new.self.consumers; rows = c.undo.new.self.rows } ≡ before =
    ap (λ held. record { cursor = c.args.delivery.cursor_before; consumers = held.consumers; rows = held.rows }) c.undo.ensures
    ∙ ap (undone c.args.delivery) c.self.view_is ∙ undone-before before c.args.self.now c.args.delivery made in
    record {
      up_to_cursor = subst (λ (g : GroupState). IsUpTo g.cursor g.rows) (sym is) made.0.up_to_cursor;
      names_counted = rw c.undo.ensures (counted-undone c.self.inside.pending c.args.delivery c.has_consumer-there.result c.self.inside.name_bytes c.either-name.result c.either.result c.self.invariant.names_counted
          c.has_consumer-there.ensures (c.either-name.ensures ∙ ap (λ k. cond c.has_consumer-there.result k 0) c.len.ensures) (c.either.ensures ∙ ap (λ t. cond t c.either-name.result 0) (none_is c.is_none.result c.args.delivery.seen_before c.is_none.ensures)));
    }

pub overflow_sub-self : goal.overflow_sub-self
overflow_sub-self c =
    within-undone c.self.inside.pending c.args.delivery c.has_consumer-there.result c.self.inside.name_bytes c.either-name.result c.either.result c.self.invariant.names_counted
    c.has_consumer-there.ensures (c.either-name.ensures ∙ ap (λ k. cond c.has_consumer-there.result k 0) c.len.ensures) (c.either.ensures ∙ ap (λ t. cond t c.either-name.result 0) (none_is c.is_none.result c.args.delivery.seen_before c.is_none.ensures))
