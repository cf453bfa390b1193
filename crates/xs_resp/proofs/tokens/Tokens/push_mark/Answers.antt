use Rattle.xs_resp.proofs.Marks.{mark-more, lengths-same}
use Rattle.xs_resp.proofs.tokens.Tokens.push_mark.Goals as goal

pub invariant_of-self-2 : goal.invariant_of-self-2
invariant_of-self-2 c = rw (c.in_ok-push.ensures.items) (lengths-same c.self.inside.marks.items c.args.mark c.self.inside.strings.items c.self.invariant c.requires)

pub returns-clause-ok : goal.returns-clause-ok
returns-clause-ok c =
    rw (c.in_ok-push.ensures.items, ← c.self.view_is) (mark-more c.self.inside.marks.items c.args.mark c.self.inside.strings.items c.self.invariant c.requires)
