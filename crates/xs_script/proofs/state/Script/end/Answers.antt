use Rattle.std.proofs.Common.{◌==◌, [], ◌∷◌, ◌++◌, length, Err, inl, inr, refl, ap, ◌∙◌, arith}
use Rattle.xs_script.specs.Cause.{input}
use Rattle.xs_script.proofs.Emptiness.{empty-none, empty-some}
use Rattle.xs_script.proofs.ScriptLines.{in-hand-last}
use Rattle.xs_script.proofs.ScriptSteps.{all-said, ends-memory, ends-well, ends-wrong, last-answered, none-left}
use Rattle.xs_script.proofs.state.Script.end.Goals as goal

pub returns-then-is_empty : goal.returns-then-is_empty
returns-then-is_empty c = λ read sent s.
    let script = c.args.self.now in
    let none = empty-none script.held c.is_empty.result (c.is_empty.ensures ∙ ap (λ h. length h == 0) c.bytes-line.ensures) c.if-is_empty.true in
    rw (c.total.ensures) (ends-well read sent script.owed.items s.lines script.written (all-said read sent script c.args.keyspace.now s) s.written (none-left read sent script c.args.keyspace.now s none))

pub returns-in-Ok : goal.returns-in-Ok
returns-in-Ok c = λ read sent s.
    let script = c.args.self.now in
    let some = empty-some script.held c.is_empty.result (c.is_empty.ensures ∙ ap (λ h. length h == 0) c.bytes-line.ensures) c.if-is_empty.false in
    let ok = rw (c.bytes-line.ensures) at c.in-Ok.ensures.ok in
    let owed = c.serve_line.new.out.items in
    let last = last-answered read sent script c.args.keyspace.now c.serve_line.new.keyspace owed ok.0 s c.requires.0 some ok.1 ok.2 in
    rw (c.total-in-Ok.ensures) (ends-well read sent owed (s.lines ++ script.held ∷ []) script.written last.0 s.written last.1)

pub returns-in-Err-NoLine : goal.returns-in-Err-NoLine
returns-in-Err-NoLine c = λ read sent s.
    let script = c.args.self.now in
    let some = empty-some script.held c.is_empty.result (c.is_empty.ensures ∙ ap (λ h. length h == 0) c.bytes-line.ensures) c.if-is_empty.false in
    let wrong = rw (c.bytes-line.ensures) at c.in-Err-NoLine.ensures.none (ap Err c.in-Err-NoLine.field-0-is) in
    rw (c.line_error.ensures, c.in-Err-NoLine.ensures.err) (ends-wrong read sent script.owed.items s.lines script.written (all-said read sent script c.args.keyspace.now s) s.written input script.number script.held []
    (in-hand-last read s.lines script.held s.is_read c.requires.0) (λ rest ended met. let end = met refl in inr (inl (refl, some, end.0, end.1))) wrong s.number)

pub returns-in-Err-Memory : goal.returns-in-Err-Memory
returns-in-Err-Memory c = λ read sent s.
    let script = c.args.self.now in
    let hand = in-hand-last read s.lines script.held s.is_read c.requires.0 in
    rw (c.out_of_memory.ensures, c.in-Err-Memory.ensures.err) (ends-memory read sent script.owed.items s.lines script.written (all-said read sent script c.args.keyspace.now s) s.written input script.held [] hand (omega arith))
