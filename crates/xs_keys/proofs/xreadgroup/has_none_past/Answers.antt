use Rattle.std.proofs.Common.{◌∙◌}
use Rattle.xs_keys.proofs.NothingNew.{first_decides}
use Rattle.xs_keys.proofs.xreadgroup.has_none_past.Goals as goal

pub returns : goal.returns
returns c = c.is_empty.ensures ∙ first_decides c.args.limit _ c.in_ok-first.first (rw c.at_most_one.ensures at c.in_ok-first.ensures.ids)
