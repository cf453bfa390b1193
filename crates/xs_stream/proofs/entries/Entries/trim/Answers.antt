use Rattle.std.proofs.Common.{◌-◌, drop, sym, ap, ◌∙◌}
use Rattle.xs_stream.specs.Blocks.{all_of}
use Rattle.xs_stream.proofs.InOrder.{trimmed-max_len}
use Rattle.xs_stream.proofs.entries.Entries.trim.Goals as goal

pub returns-in-MaxLen-clause-entries : goal.returns-in-MaxLen-clause-entries
returns-in-MaxLen-clause-entries c =
    let all = all_of c.args.self.now in
    rw c.in-MaxLen.is (c.drop_first.ensures.entries ∙ ap (λ n. drop n all) (c.surplus.ensures ∙ ap (λ n. n - c.in-MaxLen.most) c.requires.laid_down.counted) ∙ sym (trimmed-max_len c.in-MaxLen.most all c.requires.ascends))
