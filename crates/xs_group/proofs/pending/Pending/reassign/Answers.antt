use Rattle.xs_group.proofs.Terms.{rows_of, arith}
use Rattle.xs_group.proofs.pending.Pending.reassign.Goals as goal
use Rattle.xs_group.proofs.Views.{has_name-consumers_of, consumers-same}
use Rattle.xs_group.proofs.Agreeing.{refused-as}
use Rattle.xs_group.proofs.CarriedOutClaims.{rows-moved}

pub add_ids-requires-clause-there : goal.add_ids-requires-clause-there
add_ids-requires-clause-there c = grind (arith, has_name-consumers_of c.self.inside.owners.entries c.args.name.now)

pub returns-in_err-add_ids-clause-err : goal.returns-in_err-add_ids-clause-err
returns-in_err-add_ids-clause-err c = refused-as c.from_residual-in_err-add_ids.result c.add_ids.new.owners.entries c.self.inside.owners.entries
    (rows_of c.self.inside.rows.entries) c.args.self.now c.add_ids.ensures.seen c.self.view_is

pub returns-clause-ok : goal.returns-clause-ok
returns-clause-ok c = rw (← c.self.view_is) (grind (
  arith,
  consumers-same c.move_rows.new.owners.entries c.add_ids.new.owners.entries c.move_rows.ensures.seen,
  consumers-same c.add_ids.new.owners.entries c.self.inside.owners.entries c.add_ids.ensures.seen,
  rows-moved c.self.inside.rows.entries c.move_rows.new.rows.entries c.args.name.now c.args.terms.now.moment
      c.args.terms.now.rule c.args.ids.now c.move_rows.ensures.rows,
))
