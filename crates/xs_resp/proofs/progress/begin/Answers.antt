use Rattle.std.proofs.Common.{Ok, sym, ap, ◌∙◌}
use Rattle.std.proofs.lemmas.Result.{err_from_is_err_and}
use Rattle.xs_resp.proofs.Progressing.{request-none, request-err, follows-header}
use Rattle.xs_resp.proofs.progress.begin.Goals as goal

pub returns-in_err-header : goal.returns-in_err-header
returns-in_err-header c =
    let p = err_from_is_err_and c.from_residual.result c.from_residual.ensures.1 in
    rw (p.1, p.2) (request-err c.args.bytes.now _ (sym c.in_err-header.ensures))

pub returns-in-Some : goal.returns-in-Some
returns-in-Some c = follows-header c.args.bytes.now c.in-Some.header (sym c.in_ok-header.ensures ∙ ap Ok c.in-Some.is)

pub returns-in-None : goal.returns-in-None
returns-in-None c = request-none c.args.bytes.now (sym c.in_ok-header.ensures ∙ ap Ok c.in-None.is)
