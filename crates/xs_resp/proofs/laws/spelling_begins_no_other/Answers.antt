use Rattle.xs_resp.proofs.Decisions.{spelling-only}
use Rattle.xs_resp.proofs.laws.spelling_begins_no_other.Goals as goal

pub returns : goal.returns
returns c = λ bytes others rest more words names s o e. spelling-only bytes others rest more words names s o e
