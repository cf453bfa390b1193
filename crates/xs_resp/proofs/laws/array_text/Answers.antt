use Rattle.std.proofs.Common.{◌++◌, length, ap}
use Rattle.xs_resp.specs.ReplyText.{text}
use Rattle.xs_resp.specs.Line.{line}
use Rattle.xs_resp.proofs.Replying.{texts-of-items}
use Rattle.xs_resp.proofs.laws.array_text.Goals as goal

pub returns : goal.returns
unfolding text
returns c = λ replies. ap (λ texts. line 42 (length replies) ++ texts) (texts-of-items replies)
