use Rattle.xs_group.proofs.Terms.{length, sym, ap, ◌∙◌, first_id, last_id}
use Rattle.xs_group.proofs.Ordered.{entries-rows_of}
use Rattle.xs_group.proofs.pending.Pending.summary.Goals as goal

pub returns : goal.returns
returns c =
    let rows = entries-rows_of c.self.inside.rows c.len-total.ensures.ordered in
    rw (← c.self.view_is) (λ i. record {
      total = (c.new.ensures ∙ c.len-total.ensures.len ∙ sym (ap length rows)) i;
      least = (c.least.ensures ∙ sym (ap first_id rows)) i;
      greatest = (c.greatest.ensures ∙ sym (ap last_id rows)) i;
      owners = (c.new-2.ensures ∙ c.in_ok-owners.ensures c.self.inside.rows.entries c.self.invariant) i;
    })
