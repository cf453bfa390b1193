use Rattle.xs_group.proofs.Terms.{◌≡◌, cond, Some, has_id, Id, first_row, rows_of, indexed_row, AreFree, arith}
use Rattle.xs_group.proofs.pending.Pending.put_all.Goals as goal
use Rattle.xs_group.proofs.pending.Pending.put_all.Goals.{In-Ok}
use Rattle.xs_group.proofs.Views.{has_name-consumers_of, consumers-same, rows-same}
use Rattle.xs_group.proofs.Agreeing.{refused-as}
use Rattle.xs_group.proofs.NewRows.{agreed-all, agreed-but, rows-all}

pub add_ids-requires-clause-there : goal.add_ids-requires-clause-there
add_ids-requires-clause-there c = grind (arith, has_name-consumers_of c.self.inside.owners.entries c.args.name.now)

pub returns-in_err-add_ids-clause-err : goal.returns-in_err-add_ids-clause-err
returns-in_err-add_ids-clause-err c = refused-as c.from_residual-in_err-add_ids.result c.add_ids.new.owners.entries c.self.inside.owners.entries
    (rows_of c.self.inside.rows.entries) c.args.self.now c.add_ids.ensures.seen c.self.view_is

-- the rows are of this consumer, since the shared name is its name
put_is : (c : In-Ok) (x : Id)
    → indexed_row c.put_rows.new.rows.entries x ≡ cond (has_id c.args.ids.now x) (Some (first_row c.args.name.now c.args.now)) (indexed_row c.self.inside.rows.entries x)
put_is c x = grind (arith, c.in-Ok.ensures.ok x)

free : (c : In-Ok) → AreFree (rows_of c.self.inside.rows.entries) c.args.ids.now
free c x e = grind (arith, c.requires.free x e)

pub invariant_of-self-in-Ok : goal.invariant_of-self-in-Ok
invariant_of-self-in-Ok c =
    agreed-all c.self.inside.rows.entries c.put_rows.new.rows.entries c.add_ids.new.owners.entries c.args.name.now c.args.ids.now
    (first_row c.args.name.now c.args.now) (λ i. c.args.name.now) (free c) c.in_ok-add_ids.ensures.ok (put_is c)

pub take_back-requires : goal.take_back-requires
take_back-requires c = (
  c.args.ids.now,
  (λ x e. e),
  agreed-but c.self.inside.rows.entries c.put_rows.new.rows.entries c.add_ids.new.owners.entries
      c.args.name.now c.args.ids.now c.in_ok-add_ids.ensures.ok c.in_default.ensures.err,
)

pub returns-in_default-clause-err : goal.returns-in_default-clause-err
returns-in_default-clause-err c = grind (
  arith,
  consumers-same c.take_back.new.owners.entries c.add_ids.new.owners.entries c.take_back.ensures.seen,
  consumers-same c.add_ids.new.owners.entries c.self.inside.owners.entries c.add_ids.ensures.seen,
  rows-same c.put_rows.new.rows.entries c.self.inside.rows.entries c.in_default.ensures.err,
)

pub returns-clause-ok : goal.returns-clause-ok
returns-clause-ok c = rw (← c.self.view_is) (grind (
  arith,
  consumers-same c.add_ids.new.owners.entries c.self.inside.owners.entries c.add_ids.ensures.seen,
  rows-all c.self.inside.rows.entries c.put_rows.new.rows.entries c.args.ids.now
      (first_row c.in_ok-shared.shared c.args.now) c.in-Ok.ensures.ok,
))
