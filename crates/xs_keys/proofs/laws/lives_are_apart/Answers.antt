use Rattle.xs_keys.proofs.Lives.{elsewhere, closed, goes-on}
use Rattle.xs_keys.proofs.laws.lives_are_apart.Goals as goal

pub returns-clause-elsewhere : goal.returns-clause-elsewhere
returns-clause-elsewhere c = elsewhere

pub returns-clause-outside : goal.returns-clause-outside
returns-clause-outside c = closed

pub returns-clause-goes_on : goal.returns-clause-goes_on
returns-clause-goes_on c = goes-on
