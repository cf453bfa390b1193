use Rattle.std.proofs.Common.{◌≡◌, ◌∷◌, true, sym, ap, ◌∙◌, arith}
use Rattle.std.specs.Option.{option_map, option_copied}
use Rattle.std.proofs.lemmas.Bool.Decides.{nat_tests}
use Rattle.xs_script.specs.Line.{parts_behind, has_bytes}
use Rattle.xs_script.proofs.LineEnds.{line-read}
use Rattle.xs_script.proofs.lines.parts.read_line.Goals as goal

pub returns-in-Some-2 : goal.returns-in-Some-2
returns-in-Some-2 c =
    let first = c.split_space.ensures.parts ∙ ap (λ o. c.split_space.result.0.now ∷ parts_behind (option_copied o)) c.in-Some.is in
    let name = c.split_space-2.ensures.parts ∙ ap (λ o. c.split_space-2.result.0.now ∷ parts_behind (option_copied o)) c.in-Some-behind.is in
    let words = sym c.in_ok-words.ensures ∙ ap (λ o. option_map (λ w. w.items) o) c.in-Some-2.is in
    let named : has_bytes c.split_space-2.result.0.now ≡ true = grind (arith, nat_tests, c.is_empty.ensures, c.if-is_empty.false) in
    sym (line-read c.args.line.now c.split_space.result.0.now c.in-Some.client.now c.split_space-2.result.0.now c.in-Some-behind.request.now
    c.in-Some-moment.now _ c.requires first name (sym c.in-Some-moment.ensures) named words)
