use Rattle.std.proofs.Common.{refl, arith}
use Rattle.xs_resp.specs.Reading.{words}
use Rattle.xs_resp.proofs.request.Request.none.Goals as goal

pub invariant_of-result : goal.invariant_of-result
unfolding words
invariant_of-result c = ((_, refl), omega arith)

pub returns : goal.returns
unfolding words
returns c = refl
