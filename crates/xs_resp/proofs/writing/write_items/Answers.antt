use Rattle.std.proofs.Common.{◌≡◌, List, ℕ, ◌++◌, ◌∙◌, ap, subst}
use Rattle.std.specs.List.{flat_map}
use Rattle.xs_resp.specs.Line.{line}
use Rattle.xs_resp.specs.Marks.{tokens_in}
use Rattle.xs_resp.specs.ReplyText.{token_text, Writes}
use Rattle.xs_resp.proofs.Replying.{writes-behind}
use Rattle.xs_resp.proofs.writing.write_items.Goals as goal

pub returns : goal.returns
returns c =
    let items = c.args.items.now in
    let middle = c.write_line.new.out.items in
    let header : middle ≡ c.args.out.now.items ++ line 42 items.count =
    c.in_ok-write_line.ensures.text ∙ ap (λ n. c.args.out.now.items ++ line 42 n) c.count.ensures.value in
    let same : flat_map token_text (tokens_in c.parts.result.0.now c.parts.result.1.now) ≡ flat_map token_text items.tokens =
    ap (flat_map token_text) (c.parts.ensures.value ∙ c.tokens.ensures) in
    let behind = subst (λ (t : List ℕ). Writes c.write_tokens.result middle c.write_tokens.new.out.items t) same c.write_tokens.ensures in
    writes-behind c.write_tokens.result c.args.out.now.items middle c.write_tokens.new.out.items (line 42 items.count) (flat_map token_text items.tokens) header behind
