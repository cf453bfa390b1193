use Rattle.xs_group.proofs.Terms.{sym, ap, ◌∙◌, has_name, is_any, false, arith}
use Rattle.xs_group.proofs.pending.Pending.deliver.Goals as goal
use Rattle.xs_group.proofs.Agreeing.{held-again}
use Rattle.xs_group.proofs.NewRows.{held-back, name-there, was_there, given-any, given-then}

pub put_all-requires-clause-there : goal.put_all-requires-clause-there
put_all-requires-clause-there c = ap (λ held. has_name held.consumers c.args.name.now) c.in_ok-made.ensures.ok ∙ name-there c.args.self.now.consumers c.args.name.now c.args.now false

pub returns-then-made-clause-err : goal.returns-then-made-clause-err
returns-then-made-clause-err c = grind (
  arith,
  held-back c.args.self.now c.args.name.now c.args.now false (c.in_ok-made.ensures.unowned c.if-made.true) (sym c.if-made.true
      ∙ c.in_ok-made.ensures.made),
)

pub returns-else-made-clause-err : goal.returns-else-made-clause-err
returns-else-made-clause-err c = grind (
  arith,
  held-again c.args.self.now c.args.name.now c.args.now (was_there _ (sym c.if-made.false ∙ c.in_ok-made.ensures.made)),
)

pub give-requires : goal.give-requires
give-requires c = grind (arith, name-there c.args.self.now.consumers c.args.name.now c.args.now false)

pub returns-clause-ok : goal.returns-clause-ok
returns-clause-ok c = grind (
  arith,
  given-any c.args.ids.now c.is_empty.result c.is_empty.ensures,
  given-then c.args.self.now.consumers c.args.name.now c.args.now (is_any c.args.ids.now),
)
