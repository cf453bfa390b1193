use Rattle.std.proofs.Common.{◌∷◌, arith}
use Rattle.xs_resp.proofs.TokensAt.{tokens-length}
use Rattle.xs_resp.proofs.sequence.Sequence.len.Goals as goal

pub returns : goal.returns
returns c =
    rw (← c.self.view_is) (omega (arith, tokens-length (c.self.inside.first ∷ c.self.inside.marks.now) c.self.inside.strings.now))
