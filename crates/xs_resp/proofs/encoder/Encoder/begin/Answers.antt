use Rattle.std.proofs.Common.{ℕ, List, ◌++◌, drop, ap, ◌∙◌}
use Rattle.std.specs.List.{flat_map}
use Rattle.xs_resp.specs.ReplyText.{text, token_text}
use Rattle.xs_resp.specs.LeftToWrite.{Left, bytes_left}
use Rattle.xs_resp.specs.ReplyItems.{tokens_of}
use Rattle.xs_resp.proofs.Encoding.{left-pieces, gathered-alone}
use Rattle.xs_resp.proofs.encoder.Encoder.begin.Goals as goal

pub returns : goal.returns
unfolding text
returns c =
    let made = c.gather-self-inside in
    let inside = c.self.inside in
    let tokens = drop inside.position.taken (tokens_of inside.reply) in
    let alone = gathered-alone inside.gathered.items inside.position.is_lent tokens (ap (λ (left : Left). left.behind) c.self.view_is ∙ c.requires) in
    rw (← c.new.ensures) (left-pieces made.new.out.items made.result.is_lent (drop made.result.taken c.new.result) ∙ made.ensures.text
    ∙ ap (λ (bytes : List ℕ). bytes ++ flat_map token_text c.new.result) (alone ∙ ap bytes_left c.self.view_is))
