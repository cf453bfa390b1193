use Rattle.std.proofs.Common.{◌∷◌, ◌++◌, ◌∙◌, ap, sym, decimal, drop}
use Rattle.std.proofs.lemmas.List.{take-append-drop}
use Rattle.xs_resp.proofs.Numbers.{decimal-no-cr}
use Rattle.xs_tape.proofs.Heads.{no-cr-at-all, number_before}
use Rattle.xs_tape.proofs.Naturals.{spelled_once, no_number}
use Rattle.xs_tape.proofs.head.number_line.Goals as goal

pub returns-in_default-clause-line : goal.returns-in_default-clause-line
returns-in_default-clause-line c = λ number behind small is. no-cr-at-all c.args.text.now (decimal number) (10 ∷ behind) c.in_default.ensures is

pub returns-in_default-natural-clause-line : goal.returns-in_default-natural-clause-line
returns-in_default-natural-clause-line c = λ number behind small is.
    let found = number_before c.args.text.now (decimal number) behind c.in-Some.at c.in-Some.ensures.0 c.in-Some.ensures.1 c.in-Some.ensures.2 (decimal-no-cr number small) is in
    no_number c.split_at.result.0.now number (sym c.natural.ensures ∙ c.in_default-natural.is) small (c.split_at.ensures.front ∙ found.0)

pub returns-in_default-behind_line_end-clause-line : goal.returns-in_default-behind_line_end-clause-line
returns-in_default-behind_line_end-clause-line c = λ number behind small is.
    let found = number_before c.args.text.now (decimal number) behind c.in-Some.at c.in-Some.ensures.0 c.in-Some.ensures.1 c.in-Some.ensures.2 (decimal-no-cr number small) is in
    c.in_default-behind_line_end.ensures behind (c.split_at.ensures.back ∙ found.1)

pub returns-clause-line : goal.returns-clause-line
returns-clause-line c =
    let text = c.args.text.now in
    let at = c.in-Some.at in
    let number = sym c.split_at.ensures.front ∙ spelled_once c.split_at.result.0.now c.in-Some-natural.number (sym c.natural.ensures ∙ c.in-Some-natural.is) in
    let rest = sym c.split_at.ensures.back ∙ c.in-Some-behind_line_end.ensures in
    sym (take-append-drop at text) ∙ ap (λ t. t ++ drop at text) number ∙ ap (λ t. decimal c.in-Some-natural.number ++ t) rest
