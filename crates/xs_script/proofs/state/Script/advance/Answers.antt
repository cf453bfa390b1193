use Rattle.std.proofs.Common.{◌+◌, ◌<◌, [], ◌∷◌, ◌++◌, length, take, drop, Err, inl, inr, refl, sym, ap, ◌∙◌, arith}
use Rattle.std.proofs.lemmas.List.{length-take-le}
use Rattle.xs_script.specs.Cause.{itself}
use Rattle.xs_script.specs.Line.{line_limit}
use Rattle.xs_script.proofs.ScriptLines.{in-hand-last}
use Rattle.xs_script.proofs.ScriptSteps.{all-said, ends-memory, ends-wrong, in-hand, line-long, stands-more}
use Rattle.xs_script.proofs.state.Script.advance.Goals as goal

pub returns-then-bytes-gt-LINE_LIMIT-clause-after : goal.returns-then-bytes-gt-LINE_LIMIT-clause-after
returns-then-bytes-gt-LINE_LIMIT-clause-after c = λ read sent s.
    let script = c.args.self.now in
    let same = c.line_end.ensures.same in
    let none = rw (same) at c.in_default.ensures.found in
    let long : line_limit < length script.held = omega (arith, ap length (c.bytes.ensures ∙ same), c.if-bytes-gt-LINE_LIMIT.true) in
    rw (c.line_error.ensures) (ends-wrong read sent script.owed.items s.lines script.written (all-said read sent script c.args.keyspace.now s) s.written itself script.number script.held []
    (in-hand-last read s.lines script.held s.is_read none) (λ rest ended met. inr (inr long)) (line-long script.held long) s.number)

pub returns-then-at-gt-LINE_LIMIT-clause-after : goal.returns-then-at-gt-LINE_LIMIT-clause-after
returns-then-at-gt-LINE_LIMIT-clause-after c = λ read sent s.
    let script = c.args.self.now in
    let held = c.line_end.new.self in
    let at = c.in-Some.at in
    let found = c.in-Some.ensures.found in
    let line = take at held in
    let size = length-take-le at held (omega (arith, found.0)) in
    let long : line_limit < length line = omega (arith, size, c.if-at-gt-LINE_LIMIT.true) in
    rw (c.line_error-then-at-gt-LINE_LIMIT.ensures) (ends-wrong read sent script.owed.items s.lines script.written (all-said read sent script c.args.keyspace.now s) s.written itself script.number line (10 ∷ drop (at + 1) held)
    (in-hand read s.lines script.held line (10 ∷ drop (at + 1) held) s.is_read (sym c.line_end.ensures.same ∙ found.2) found.1) (λ rest ended met. inl (drop (at + 1) held, refl)) (line-long line long) s.number)

pub returns-in-Err-NoLine-clause-after : goal.returns-in-Err-NoLine-clause-after
returns-in-Err-NoLine-clause-after c = λ read sent s.
    let script = c.args.self.now in
    let held = c.line_end.new.self in
    let at = c.in-Some.at in
    let found = c.in-Some.ensures.found in
    let line = take at held in
    let wrong = rw (c.bytes-2.ensures) at c.in-Err-NoLine.ensures.none (ap Err c.in-Err-NoLine.field-0-is) in
    rw (c.line_error-in-Err-NoLine.ensures, c.in-Err-NoLine.ensures.err) (ends-wrong read sent script.owed.items s.lines script.written (all-said read sent script c.args.keyspace.now s) s.written itself script.number line (10 ∷ drop (at + 1) held)
    (in-hand read s.lines script.held line (10 ∷ drop (at + 1) held) s.is_read (sym c.line_end.ensures.same ∙ found.2) found.1) (λ rest ended met. inl (drop (at + 1) held, refl)) wrong s.number)

pub returns-in-Err-Memory-clause-after : goal.returns-in-Err-Memory-clause-after
returns-in-Err-Memory-clause-after c = λ read sent s.
    let script = c.args.self.now in
    let held = c.line_end.new.self in
    let at = c.in-Some.at in
    let found = c.in-Some.ensures.found in
    let split = sym c.line_end.ensures.same ∙ found.2 in
    let few = s.few (take at held) (drop (at + 1) held) split found.1 in
    rw (c.out_of_memory.ensures, c.in-Err-Memory.ensures.err) (ends-memory read sent script.owed.items s.lines script.written (all-said read sent script c.args.keyspace.now s) s.written itself (take at held) (10 ∷ drop (at + 1) held)
    (in-hand read s.lines script.held (take at held) (10 ∷ drop (at + 1) held) s.is_read split found.1) (omega (arith, few)))

pub returns-clause-after : goal.returns-clause-after
returns-clause-after c = λ read sent s.
    let script = c.args.self.now in
    let held = c.line_end.new.self in
    let at = c.in-Some.at in
    let found = c.in-Some.ensures.found in
    let ok = rw (c.bytes-2.ensures) at c.in-Ok.ensures.ok in
    let later = record script { held = c.consume.new.self; owed = c.serve_line.new.out; number = c.saturating_add-self.result } in
    let split = sym c.line_end.ensures.same ∙ found.2 ∙ ap (λ r. take at held ++ 10 ∷ r) (sym c.consume.ensures) in
    stands-more read sent script later c.args.keyspace.now c.serve_line.new.keyspace (take at held) ok.0 s split found.1 ok.1 ok.2 c.saturating_add-self.ensures refl
