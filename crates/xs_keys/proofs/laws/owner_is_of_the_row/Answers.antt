use Rattle.std.proofs.Common.{◌∙◌, sym, ap}
use Rattle.xs_keys.proofs.Owners.{owner-row, row-found, of_row}
use Rattle.xs_keys.proofs.laws.owner_is_of_the_row.Goals as goal

pub returns-clause-pending_row_at : goal.returns-clause-pending_row_at
returns-clause-pending_row_at c = λ past key group life e x. owner-row life.start life.events x

pub returns-clause-pending : goal.returns-clause-pending
returns-clause-pending c = λ past key group life e x. owner-row life.start life.events x ∙ sym (ap of_row (row-found life.start life.events x))
