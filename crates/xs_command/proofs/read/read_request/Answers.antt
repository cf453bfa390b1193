use Rattle.xs_command.proofs.FormedReads.{given_formed}
use Rattle.xs_command.proofs.read.read_request.Goals as goal

pub returns-clause-formed : goal.returns-clause-formed
returns-clause-formed c = given_formed _ c.read_words.result c.read_words.ensures
