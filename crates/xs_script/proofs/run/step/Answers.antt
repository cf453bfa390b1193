use Rattle.std.proofs.Common.{◌++◌, [], Err, inl, inr, ap, refl, arith}
use Rattle.std.proofs.lemmas.List.{append-nil}
use Rattle.xs_io.proofs.Passing.{Consumes-nil, Consumes-kept}
use Rattle.xs_script.specs.Cause.{itself, input, reader}
use Rattle.xs_script.proofs.ScriptLines.{in-hand-last}
use Rattle.xs_script.proofs.ScriptSteps.{all-said, ends-memory, ends-read, stands-with-more}
use Rattle.xs_script.proofs.run.step.Goals as goal

pub returns-in-Goes-clause-steps : goal.returns-in-Goes-clause-steps
returns-in-Goes-clause-steps g c = λ read sent stands. ([], Consumes-nil _, rw (append-nil read) (c.in-Goes.ensures.after read sent stands))

pub returns-in-Ends-clause-steps : goal.returns-in-Ends-clause-steps
returns-in-Ends-clause-steps g c = λ read sent stands. ([], Consumes-nil _, (itself, rw (append-nil read) (c.in-Ends.ensures.after read sent stands), λ first output counted. tt))

pub returns-then-left-eq0-clause-steps : goal.returns-then-left-eq0-clause-steps
returns-then-left-eq0-clause-steps g c = λ read sent stands.
    let script = c.advance.new.self in
    let s = c.in-Waits.ensures.after read sent stands in
    let waits = c.in-Waits.ensures.waits refl in
    let ends = ends-read read sent script.owed.items s.lines script.written (all-said read sent script c.advance.new.keyspace s) s.written script.held (in-hand-last read s.lines script.held s.is_read waits.0) in
    ([], Consumes-nil _, (reader, rw (append-nil read, c.read_error.ensures) ends, λ first output counted. inr (omega (arith, counted, c.if-left-eq0.true))))

pub returns-in-Err-Memory-clause-steps : goal.returns-in-Err-Memory-clause-steps
returns-in-Err-Memory-clause-steps g c = λ read sent stands.
    let script = c.advance.new.self in
    let s = c.in-Waits.ensures.after read sent stands in
    let waits = c.in-Waits.ensures.waits refl in
    let err = c.in-Err-Memory.ensures.err in
    let hand = in-hand-last read s.lines script.held s.is_read waits.0 in
    let ends = ends-memory read sent script.owed.items s.lines script.written (all-said read sent script c.advance.new.keyspace s) s.written itself script.held [] hand (omega arith) in
    ([], Consumes-kept _ _ _ [] (Consumes-nil _) err.1, (itself, rw (append-nil read, c.out_of_memory.ensures) ends, λ first output counted. tt))

pub returns-in-Err-Read-clause-steps : goal.returns-in-Err-Read-clause-steps
returns-in-Err-Read-clause-steps g c = λ read sent stands.
    let script = c.advance.new.self in
    let s = c.in-Waits.ensures.after read sent stands in
    let waits = c.in-Waits.ensures.waits refl in
    let err = c.in-Err-Read.ensures.err in
    let broken = c.in-Err-Read.ensures.read (ap Err c.in-Err-Read.field-0-is) in
    let ends = ends-read read sent script.owed.items s.lines script.written (all-said read sent script c.advance.new.keyspace s) s.written script.held (in-hand-last read s.lines script.held s.is_read waits.0) in
    ([], Consumes-kept _ _ _ [] (Consumes-nil _) err.1, (reader, rw (append-nil read, c.read_error-in-Err-Read.ensures) ends, λ first output counted. inl broken))

pub returns-then-count-eq0-clause-steps : goal.returns-then-count-eq0-clause-steps
returns-then-count-eq0-clause-steps g c = λ read sent stands.
    let script = c.advance.new.self in
    let s = c.in-Waits.ensures.after read sent stands in
    let waits = c.in-Waits.ensures.waits refl in
    let (got, size, small, came, end, is) = c.in-Ok.ensures.ok in
    let later = record script { held = c.fill.new.self } in
    let more = stands-with-more read sent got script later c.advance.new.keyspace s waits.0 (omega (arith, size, small)) is refl refl refl in
    (got, came, (input, c.end.ensures (read ++ got) sent more, λ first output counted. end c.if-count-eq0.true))

pub returns-clause-steps : goal.returns-clause-steps
returns-clause-steps g c = λ read sent stands.
    let script = c.advance.new.self in
    let s = c.in-Waits.ensures.after read sent stands in
    let waits = c.in-Waits.ensures.waits refl in
    let (got, size, small, came, end, is) = c.in-Ok.ensures.ok in
    let later = record script { held = c.fill.new.self } in
    (got, came, stands-with-more read sent got script later c.advance.new.keyspace s waits.0 (omega (arith, size, small)) is refl refl refl)
