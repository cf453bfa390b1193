use Rattle.xs_group.proofs.Terms.{sym, ap, ◌∙◌, has_name, is_any, false, eqb, length, arith}
use Rattle.xs_group.proofs.pending.Pending.settle.Goals as goal
use Rattle.xs_group.proofs.Agreeing.{held-again}
use Rattle.xs_group.proofs.NewRows.{held-back, name-there, was_there, given-any, given-then}
use Rattle.xs_group.proofs.CarriedOutClaims.{rows-settled}

pub reassign-requires-clause-there : goal.reassign-requires-clause-there
reassign-requires-clause-there c = ap (λ held. has_name held.consumers c.args.name.now) c.in_ok-made.ensures.ok ∙ name-there c.args.self.now.consumers c.args.name.now c.args.terms.now.moment false

pub returns-then-made-clause-err : goal.returns-then-made-clause-err
returns-then-made-clause-err c = grind (
  arith,
  held-back c.args.self.now c.args.name.now c.args.terms.now.moment false (c.in_ok-made.ensures.unowned c.if-made.true) (sym c.if-made.true
      ∙ c.in_ok-made.ensures.made),
)

pub returns-else-made-clause-err : goal.returns-else-made-clause-err
returns-else-made-clause-err c = grind (
  arith,
  held-again c.args.self.now c.args.name.now c.args.terms.now.moment (was_there _ (sym c.if-made.false ∙ c.in_ok-made.ensures.made)),
)

pub give-requires : goal.give-requires
give-requires c = grind (arith, name-there c.args.self.now.consumers c.args.name.now c.args.terms.now.moment false)

pub returns-clause-ok : goal.returns-clause-ok
returns-clause-ok c = grind (
  arith,
  rows-settled c.args.name.now c.args.terms.now.moment c.args.terms.now.rule c.args.claim.now c.args.self.now.rows,
  given-any c.args.claim.now.take c.is_empty.result (c.is_empty.ensures ∙ ap (λ ids. eqb (length ids) 0) c.as_slice-3.ensures),
  given-then c.args.self.now.consumers c.args.name.now c.args.terms.now.moment (is_any c.args.claim.now.take),
)
