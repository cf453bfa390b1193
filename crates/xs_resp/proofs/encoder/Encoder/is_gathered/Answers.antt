use Rattle.std.proofs.Common.{length, drop, ap, ◌<◌, ◌∙◌, arith, length-drop}
use Rattle.std.proofs.lemmas.Bool.{leb-false}
use Rattle.xs_resp.specs.LeftToWrite.{Left}
use Rattle.xs_resp.specs.ReplyItems.{tokens_of}
use Rattle.xs_resp.proofs.Encoding.{more-lent, more-left}
use Rattle.xs_resp.proofs.encoder.Encoder.is_gathered.Goals as goal

pub returns-then-not-self-clause-more : goal.returns-then-not-self-clause-more
returns-then-not-self-clause-more c = λ less none.
    let inside = c.self.inside in
    let tokens = tokens_of inside.reply in
    let view = rw (c.if-not-self.true) at c.self.view_is in
    let left : 0 < length (drop inside.position.taken tokens) = omega (arith, leb-false c.len.result inside.position.taken less, c.len.ensures, ap length c.new.ensures, length-drop inside.position.taken tokens) in
    more-left inside.gathered.items (drop inside.position.taken tokens) left (ap (λ (l : Left). l.behind) view ∙ none)

pub returns-else-not-self-clause-more : goal.returns-else-not-self-clause-more
returns-else-not-self-clause-more c = λ _ none.
    let inside = c.self.inside in
    let tokens = drop inside.position.taken (tokens_of inside.reply) in
    let view = rw (c.if-not-self.false) at c.self.view_is in
    more-lent inside.gathered.items tokens (c.self.invariant.1.string c.if-not-self.false) (ap (λ (l : Left). l.behind) view ∙ none)
