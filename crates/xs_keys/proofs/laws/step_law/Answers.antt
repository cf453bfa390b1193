use Rattle.xs_keys.proofs.Contents.{content-none, content-step, content-unique}
use Rattle.xs_keys.proofs.ConsistentContents.{content-consistent}
use Rattle.xs_keys.proofs.laws.step_law.Goals as goal

pub returns-clause-empty : goal.returns-clause-empty
returns-clause-empty c = content-none

pub returns-clause-step : goal.returns-clause-step
returns-clause-step c = content-step

pub returns-clause-unique : goal.returns-clause-unique
returns-clause-unique c = content-unique

pub returns-clause-consistent : goal.returns-clause-consistent
returns-clause-consistent c = content-consistent
