use Rattle.std.proofs.Common.{◌≡◌, ◌≤◌, length, Ok, Err, sym, ◌∙◌, arith}
use Rattle.xs_command.specs.Words.{id_of_word}
use Rattle.xs_command.proofs.IdSteps.{goes_on, stops_at, ends, fewer}
use Rattle.xs_command.proofs.words.Words.ids_behind.Goals as goal

pub returns-in_default : goal.returns-in_default
returns-in_default c =
    let none : id_of_word c.loop-id.left ≡ Err c.in_default.field-0 = cc in
    rw (c.many.ensures, c.shrink_to_fit.ensures.items) (sym (stops_at c.loop-id.items.items c.loop-id.left c.in_default.field-0 none) ∙ c.loop-id.invariant.0)

pub loop-id-preserved : goal.loop-id-preserved
loop-id-preserved c =
    let one : id_of_word c.loop-id.left ≡ Ok (c.in-Ok.id, c.in-Ok.behind) = cc in
    let shorter = fewer c.loop-id.left c.in-Ok.id c.in-Ok.behind one in
    (rw c.in_ok-push-2.ensures.items (goes_on c.loop-id.items.items c.loop-id.left c.in-Ok.id c.in-Ok.behind one ∙ c.loop-id.invariant.0), omega (arith, c.loop-id.invariant.1))

pub returns : goal.returns
returns c =
    let none : length c.loop-id.left ≤ 0 = omega (arith, c.loop-id.invariant.1) in
    rw c.many-2.ensures (sym (ends c.loop-id.items.items c.loop-id.left none) ∙ c.loop-id.invariant.0)
