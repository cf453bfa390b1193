use Rattle.xs_desk.proofs.Uniqueness.{same-calls}
use Rattle.xs_desk.proofs.laws.calls_are_unique.Goals as goal

pub returns : goal.returns
returns c = λ desk one other a b. same-calls desk one other a b
