use Rattle.std.proofs.Common.{◌≤◌, length, take, drop, ap, ◌∙◌, sym, arith}
use Rattle.std.proofs.lemmas.List.{take-append-drop, length-take-le}
use Rattle.xs_script.proofs.HeldLines.{end-behind}
use Rattle.xs_script.proofs.lines.held.HeldBytes.line_end.Goals as goal

pub returns-in-Some-clause-found : goal.returns-in-Some-clause-found
returns-in-Some-clause-found c =
    let held = c.args.self.now in
    let inv = c.self.invariant in
    let count = c.self.inside.searched in
    let fits : count ≤ length held = omega (arith, inv.0, ap length c.self.view_is) in
    let rest = c.split_at.ensures.back ∙ ap (drop count) c.bytes.ensures in
    end-behind held (take count held) (drop count held) count c.in-Some.at (sym (take-append-drop count held)) (length-take-le count held fits) (rw (← c.self.view_is) inv.1) (rw (← rest) c.in-Some.ensures)
