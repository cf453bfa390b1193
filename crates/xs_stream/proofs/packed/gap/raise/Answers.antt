use Rattle.std.proofs.Common.{◌≡◌, ◌+◌, ◌-◌, ◌≤◌, ◌++◌, length, take, drop, ◌∙◌, sym, subst, arith}
use Rattle.xs_stream.proofs.Gaps.{next_count-long, next_count-before, next_count-behind, drop-within}
use Rattle.xs_stream.proofs.packed.gap.raise.Goals as goal

pub loop-end-preserved : goal.loop-end-preserved
loop-end-preserved c =
    let was = c.loop-end.invariant in
    let first = c.args.bytes.now.items in
    let bytes = c.loop-end.bytes.items in
    let new = c.raise_piece.new.bytes.items in
    let gap = c.args.to - c.args.from in
    let piece = c.min-piece.result in
    let at = c.loop-end.end - piece in
    let fits : piece ≤ c.loop-end.end = omega (arith, c.min-piece.ensures) in
    let end : c.loop-end.end ≡ at + piece = omega (arith, fits) in
    let inside : at + gap + piece ≤ length bytes = omega (arith, was.same_length, was.not_past, c.requires.inside, c.requires.forward, fits) in
    let within : at + piece ≤ c.args.from = omega (arith, was.not_past, fits) in
    let before = subst (λ n. take n bytes ≡ take n first) end was.before in
    let behind = subst (λ n. drop (n + gap) bytes ≡ take (c.args.from - n) (drop n first) ++ drop c.args.to first) end was.behind in
    record {
      begin = omega (arith, c.min-piece.ensures, c.loop-end-test.true);
      not_past = omega (arith, was.not_past);
      same_length = omega (arith, was.same_length, next_count-long first bytes new at gap piece c.args.from c.args.to inside c.raise_piece.ensures);
      before = next_count-before first bytes new at gap piece c.args.from c.args.to inside c.raise_piece.ensures before;
      behind = next_count-behind first bytes new at gap piece c.args.from c.args.to inside c.raise_piece.ensures within before behind;
    }

pub returns-clause-rest : goal.returns-clause-rest
returns-clause-rest c =
    let was = c.loop-end.invariant in
    let first = c.args.bytes.now.items in
    let bytes = c.loop-end.bytes.items in
    let start = c.args.start in
    let gap = c.args.to - c.args.from in
    let done : c.loop-end.end ≡ start = omega (arith, was.begin, c.loop-end-test.false) in
    subst (λ n. drop (n + gap) bytes ≡ take (c.args.from - n) (drop n first) ++ drop c.args.to first) done was.behind
    ∙ sym (drop-within start c.args.from first (drop c.args.to first) c.requires.begin (omega (arith, c.requires.forward, c.requires.inside)))
