use Rattle.std.proofs.Common.{length, sym, ap, ◌∙◌, subst}
use Rattle.xs_io.specs.Passing.{known_by}
use Rattle.xs_tape.specs.Crash.{before_zero}
use Rattle.std.proofs.Common.{take, suc, None, ◌++◌}
use Rattle.xs_bytes.specs.SortedMap.{empty}
use Rattle.xs_replay.specs.After.{contents_after, moment_after}
use Rattle.xs_replay.specs.Log.{HasEvents}
use Rattle.xs_log.specs.Logs.{CrashLeavesLog}
use Rattle.xs_log.specs.TapeLog.{AreClosedLogs}
use Rattle.xs_log.proofs.Restarts.{crash_of, given, given-unique, restarts_so, number_of}
use Rattle.xs_log.proofs.Results.{match_parts, if_ok_as}
use Rattle.xs_log.proofs.after_crash.restart.Goals as goal

pub returns-clause-content : goal.returns-clause-content
returns-clause-content g c = if_ok_as c.recover.result _ _ (λ found ok.
    (ok.0, ok.1 ∙ ap (λ k. contents_after k ok.0) c.new.ensures.keyspace, ok.2 ∙ ap (λ m. moment_after m ok.0) c.new.ensures.last)) c.recover.ensures.content

pub returns-clause-read : goal.returns-clause-read
returns-clause-read g c = λ broken number pending tape events kept file log leaves readers last.
    let rest = known_by g.R.Source.rest in
    let crash = crash_of broken number pending tape events kept file log leaves in
    let closed = log.on_tape.closed_is in
    let are = subst (λ cs. AreClosedLogs 1 cs log.before) (sym closed) log.closed_are in
    let count_is = number_of rest c.args.closed.items tape.closed readers ∙ ap (λ cs. suc (length cs)) closed in
    let left = subst (λ n. CrashLeavesLog n log.last log.sure file) (sym count_is) crash in
    match_parts c.recover.result _ _
    (if_ok_as c.recover.result _ _ (λ found ok.
    let got = ok.2 log.last log.sure file left last in
    let same = given-unique rest 1 c.args.closed.items tape.closed log.before ok.0 readers are ok.1 in
    let more = take got.0 log.last in
    restarts_so broken number pending tape events kept file log got.0 _ _ _ _ got.1 got.2 (subst (λ n. HasEvents n (before_zero file) more found.1.whole found.1.part) count_is got.3) (got.4 ∙ ap (λ k. contents_after k (ok.0 ++ more)) c.new.ensures.keyspace ∙ ap (λ es. contents_after empty (es ++ more)) same)
    (got.5 ∙ ap (λ m. moment_after m (ok.0 ++ more)) c.new.ensures.last ∙ ap (λ es. moment_after None (es ++ more)) same)) c.recover.ensures.ok)
    (c.recover.ensures.err log.before log.last log.sure file (given rest 1 c.args.closed.items tape.closed log.before readers are) left last)
