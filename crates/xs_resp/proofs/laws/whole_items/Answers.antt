use Rattle.xs_resp.proofs.Wholeness.{items-whole, items-found}
use Rattle.xs_resp.proofs.laws.whole_items.Goals as goal

pub returns : goal.returns
returns c = record { made = items-whole; found = items-found }
