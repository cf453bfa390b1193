use Rattle.std.proofs.Common.{◌+◌, ◌∷◌, drop, sym, ap, ◌∙◌, arith}
use Rattle.std.proofs.lemmas.List.{drop_more}
use Rattle.xs_keys.proofs.CodeMaps.{length-remove}
use Rattle.xs_keys.proofs.del.remove_all.Goals as goal

pub loop-name-preserved : goal.loop-name-preserved
loop-name-preserved c =
    let names = c.args.names.now in
    let name = c.name-item.result in
    let next = drop_more names c.loop-name.name-index name c.loop-name-test.true ∙ ap (λ n. n ∷ drop (c.loop-name.name-index + 1) names) (sym c.name-item.is) in
    let done = rw next at c.loop-name.invariant in
    rw c.remove.ensures (done.0, omega (arith, done.1, length-remove c.loop-name.keys name))
