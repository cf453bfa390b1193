use Rattle.xs_group.proofs.ReportRows.{last-told}
use Rattle.xs_group.proofs.reports.greatest.Goals as goal

pub returns-in-Some : goal.returns-in-Some
returns-in-Some c = last-told c.args.rows.now.entries c.in-Some.id.now c.in-Some.field-0-1.now c.in-Some.ensures.last
