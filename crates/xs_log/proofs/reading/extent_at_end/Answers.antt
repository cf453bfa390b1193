use Rattle.std.proofs.Common.{length, sym, ap, ◌∙◌, subst}
use Rattle.std.proofs.lemmas.Bool.{false≢true}
use Rattle.xs_tape.specs.Heads.{MayBeCut, IsCut}
use Rattle.xs_log.proofs.reading.extent_at_end.Goals as goal

pub returns-then-not-may_be_cut-clause-err : goal.returns-then-not-may_be_cut-clause-err
returns-then-not-may_be_cut-clause-err c = λ rest is cut.
    false≢true (sym c.if-not-may_be_cut.true ∙ c.may_be_cut.ensures.cut (subst IsCut (sym (c.held_bytes-part.ensures rest is)) cut))

pub returns-clause-part : goal.returns-clause-part
returns-clause-part c = λ rest is.
    let same = c.held_bytes-part.ensures rest is in
    (ap length same, subst MayBeCut same (c.may_be_cut.ensures.yes c.if-not-may_be_cut.false))
