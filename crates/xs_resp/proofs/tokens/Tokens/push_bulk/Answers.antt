use Rattle.std.proofs.Common.{refl}
use Rattle.xs_resp.proofs.Marks.{lengths-more, token-more}
use Rattle.xs_resp.proofs.tokens.Tokens.push_bulk.Goals as goal

pub invariant_of-self-in-Ok : goal.invariant_of-self-in-Ok
invariant_of-self-in-Ok c =
    rw (c.in-Ok.ensures.items, c.in_ok-extend_from_slice.ensures.items) (lengths-more c.self.inside.marks.items _ c.self.inside.strings.items c.args.bytes.now c.self.invariant refl)

pub returns-in-Ok-clause-ok : goal.returns-in-Ok-clause-ok
returns-in-Ok-clause-ok c =
    rw (c.in-Ok.ensures.items, c.in_ok-extend_from_slice.ensures.items, ← c.self.view_is)
    (token-more c.self.inside.marks.items _ c.self.inside.strings.items c.args.bytes.now c.self.invariant refl)
