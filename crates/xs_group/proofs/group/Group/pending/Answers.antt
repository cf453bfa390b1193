use Rattle.xs_group.proofs.Terms.{◌≡◌, true, sym, ◌∙◌, option_map, is_below, partial-below}
use Rattle.xs_group.proofs.ReportRows.{asked-none}
use Rattle.xs_group.proofs.group.Group.pending.Goals as goal

pub returns-then-lt : goal.returns-then-lt
returns-then-lt c =
    let above : is_below c.args.range.high c.args.range.low ≡ true = sym (partial-below _ _) ∙ sym c.if-lt.ensures in
    c.new.ensures.items ∙ asked-none c.args.range c.args.min_idle c.args.now c.args.limit (option_map (λ k. k.now) c.args.consumer) c.args.self.now.rows.entries above
