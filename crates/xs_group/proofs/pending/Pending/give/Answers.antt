use Rattle.xs_group.proofs.Terms.{◌≡◌, ℕ, Bool, List, sym, ap, ◌∙◌, with_name, PendingList}
use Rattle.xs_group.proofs.Agreeing.{held-again}
use Rattle.xs_group.proofs.NewRows.{given-now}
use Rattle.xs_group.proofs.pending.Pending.give.Goals as goal

abbrev left : PendingList → List ℕ → ℕ → Bool → PendingList
left held name now given = record { consumers = with_name held.consumers name now given; rows = held.rows }

pub returns-then-given : goal.returns-then-given
returns-then-given c =
    c.set_seen.ensures ∙ ap (λ consumers. record { consumers = consumers; rows = c.args.self.now.rows }) (given-now c.args.self.now.consumers c.args.name.now c.args.now c.requires)
    ∙ ap (left c.args.self.now c.args.name.now c.args.now) (sym c.if-given.true)

pub returns-else-given : goal.returns-else-given
returns-else-given c = held-again c.args.self.now c.args.name.now c.args.now c.requires ∙ ap (left c.args.self.now c.args.name.now c.args.now) (sym c.if-given.false)
