use Rattle.std.proofs.Common.{rules, ◌≡◌}
use Rattle.xs_script.proofs.run.send.Goals as goal

pub returns-in-Err-clause-err : goal.returns-in-Err-clause-err
returns-in-Err-clause-err g c =
    let same : c.as_slice.result.now ≡ c.args.script.now.owed.items = search rules in
    let err = rw (same) at c.in-Err.ensures.err in
    (c.in-Err.count, err.0, err.1, c.write_error.ensures)
