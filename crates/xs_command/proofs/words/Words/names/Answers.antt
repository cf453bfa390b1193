use Rattle.std.proofs.Common.{◌≡◌, ◌∷◌, [], ◌++◌, take, rules, sym, ap, ◌∙◌, arith}
use Rattle.xs_command.proofs.NameSteps.{one-more}
use Rattle.xs_command.proofs.words.Words.names.Goals as goal

pub loop-name-preserved : goal.loop-name-preserved
loop-name-preserved c =
    let n = c.loop-name._name in
    let words = c.args.self.now in
    let word = c.unwrap-behind.result.0.now in
    let behind = c.unwrap-behind.result.1 in
    let next : c.loop-name.left ≡ word ∷ behind = search rules in
    let step = one-more n words word behind (omega (arith, c.loop-name-test.true, c.requires)) (sym c.loop-name.invariant.1 ∙ next) in (
      c.push_reserved.ensures.items ∙ ap (λ ws. ws ++ c.in_ok-from_slice.field-0 ∷ []) c.loop-name.invariant.0 ∙ ap (λ w. take n words ++ w ∷ []) c.in_ok-from_slice.ensures ∙ sym step.0,
      sym step.1,
      omega (arith, c.push_reserved.ensures.len, c.loop-name.invariant.2),
      omega (arith, c.push_reserved.ensures.capacity, c.loop-name.invariant.3),
    )
