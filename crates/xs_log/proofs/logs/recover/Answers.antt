use Rattle.std.proofs.Common.{◌++◌, take, sym, ap, ◌∙◌, subst}
use Rattle.xs_tape.specs.Crash.{before_zero}
use Rattle.xs_replay.specs.Log.{HasEvents}
use Rattle.xs_replay.specs.After.{contents_after, moment_after}
use Rattle.xs_log.specs.Logs.{CrashLeavesLog}
use Rattle.xs_log.proofs.LogsInOrder.{contents-joined, moments-joined}
use Rattle.xs_log.proofs.logs.recover.Goals as goal

pub returns-in-Ok-clause-ok : goal.returns-in-Ok-clause-ok
returns-in-Ok-clause-ok g c =
    let before = c.in_ok-number.ensures.ok in (
      before.0.0,
      before.0.1,
      λ events kept left is known.
          let found = c.in-Ok.ensures.ok events kept left (subst (λ n. CrashLeavesLog n events kept left) (sym before.1) is) known in
          let more = take found.0 events in (
            found.0,
            found.1,
            found.2,
            subst (λ n. HasEvents n (before_zero left) more c.in-Ok.extent.whole c.in-Ok.extent.part) before.1 found.3,
            found.4 ∙ ap (λ k. contents_after k more) before.0.2 ∙ sym (contents-joined c.args.start.keyspace before.0.0 more),
            found.5 ∙ ap (λ m. moment_after m more) before.0.3 ∙ sym (moments-joined c.args.start.last before.0.0 more),
          ),
    )

pub returns-in-Err-clause-err : goal.returns-in-Err-clause-err
returns-in-Err-clause-err g c = λ before events kept left give is known.
    c.in-Err.ensures.err events kept left (subst (λ n. CrashLeavesLog n events kept left) (sym c.in_ok-number.ensures.ok.1) is) known

pub returns-in-Ok-clause-content : goal.returns-in-Ok-clause-content
returns-in-Ok-clause-content g c =
    let before = c.in_ok-number.ensures.ok in
    let more = c.in-Ok.ensures.content in (
      before.0.0 ++ more.0,
      more.1 ∙ ap (λ k. contents_after k more.0) before.0.2 ∙ sym (contents-joined c.args.start.keyspace before.0.0 more.0),
      more.2 ∙ ap (λ m. moment_after m more.0) before.0.3 ∙ sym (moments-joined c.args.start.last before.0.0 more.0),
    )
