use Rattle.xs_keys.proofs.Refusals.{refused-unchanged}
use Rattle.xs_keys.proofs.laws.what_is_refused_changes_nothing.Goals as goal

pub returns : goal.returns
returns c = refused-unchanged
