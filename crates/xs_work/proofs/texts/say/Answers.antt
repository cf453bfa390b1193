use Rattle.std.proofs.Common.{[], take, drop, sym, refl, inl, inr}
use Rattle.std.proofs.lemmas.List.{take-append-drop, append-nil}
use Rattle.xs_work.proofs.texts.say.Goals as goal

pub returns-in-Ok-clause-said : goal.returns-in-Ok-clause-said
returns-in-Ok-clause-said g c = (c.args.text.now, [], sym (append-nil c.args.text.now), c.in-Ok.ensures.ok.1, inl refl)

pub returns-in-Err-clause-said : goal.returns-in-Err-clause-said
returns-in-Err-clause-said g c =
    let text = c.args.text.now in
    let n = c.in-Err.field-0 in
    (take n text, drop n text, sym (take-append-drop n text), c.in-Err.ensures.err.1, inr c.in-Err.ensures.err.2)
