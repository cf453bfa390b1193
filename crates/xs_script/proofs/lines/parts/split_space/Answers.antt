use Rattle.std.proofs.Common.{◌+◌, ◌-◌, ◌≤◌, drop, take, length, Some, None, ap, ◌∙◌, arith}
use Rattle.std.proofs.lemmas.List.{take_all, length-drop}
use Rattle.xs_script.specs.Line.{parts_of}
use Rattle.xs_script.proofs.LineEnds.{first_place, parts-none, parts-split}
use Rattle.xs_script.proofs.lines.parts.split_space.Goals as goal

pub returns-in-Some : goal.returns-in-Some
returns-in-Some c =
    let text = c.args.text.now in
    let at = c.in-Some.at in
    let place = first_place 32 text (Some at) c.in-Some.ensures in
    let behind = length-drop (at + 1) text in
    let fits : length (drop (at + 1) text) ≤ length text - (at + 1) = omega arith in
    rw (take_all (length text - (at + 1)) (drop (at + 1) text) fits) (record {
      parts = ap parts_of place.2 ∙ parts-split (take at text) (drop (at + 1) text) place.1;
      shorter = omega (arith, place.0);
    })

pub returns-in-None : goal.returns-in-None
returns-in-None c = record { parts = parts-none c.args.text.now (first_place 32 c.args.text.now None c.in-None.ensures); shorter = tt }
