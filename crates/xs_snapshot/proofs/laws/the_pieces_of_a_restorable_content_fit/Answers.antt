use Rattle.xs_snapshot.proofs.RestorableContents.{restorable-fits}
use Rattle.xs_snapshot.proofs.laws.the_pieces_of_a_restorable_content_fit.Goals as goal

pub returns : goal.returns
returns c = λ content can. restorable-fits content can
