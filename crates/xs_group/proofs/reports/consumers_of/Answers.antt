use Rattle.xs_group.proofs.Terms.{◌≡◌, ◌∷◌, [], ◌++◌, map, length, sym, ap, ◌∙◌, subst, append_assoc, append-nil}
use Rattle.xs_group.proofs.Terms.{ids_of_owner, arith}
use Rattle.xs_stream.specs.Id.{zero_id}
use Rattle.xs_group.proofs.OwnIds.{owned-some}
use Rattle.xs_group.proofs.ReportRows.{AreHeld, held-all, report, reports-told}
use Rattle.xs_group.proofs.reports.consumers_of.Goals as goal

pub loop-name-init : goal.loop-name-init
loop-name-init c =
    let is = c.into_iter-name-iterator.ensures.into_iter_gives ∙ c.iter-name-items.ensures.rest in
    record {
      held = subst (AreHeld c.args.owners.now.entries) (sym is) (held-all c.args.owners.now c.iter-name-items.ensures.ordered);
      found = λ rows agreed. λ i. c.in_ok-found.ensures.items i ++ map (report c.args.now rows) (is i);
    }

pub loop-name-preserved : goal.loop-name-preserved
loop-name-preserved c =
    let owners = c.args.owners.now.entries in
    let name = c.in-Some.name.now in
    let owner = c.in-Some.owner.now in
    let steps : c.loop-name.name-iterator ≡ (name, owner) ∷ c.next.new.self = c.in-Some.ensures.steps in
    let held = subst (AreHeld owners) steps c.loop-name.invariant.held in
    record {
      held = held.1;
      found = λ rows agreed. grind (
        arith,
        append_assoc c.loop-name.found.items (report c.args.now rows (name, owner) ∷ []) (map (report c.args.now rows) c.next.new.self),
        owned-some rows owners name owner.ids agreed (ap ids_of_owner held.0) c.len-count.ensures.ordered,
        c.loop-name.invariant.found rows agreed,
      );
    }

pub returns : goal.returns
returns c = λ rows agreed.
    sym (append-nil c.loop-name.found.items) ∙ ap (λ es. c.loop-name.found.items ++ map (report c.args.now rows) es) (sym c.in-None.ensures.steps.0)
    ∙ c.loop-name.invariant.found rows agreed ∙ reports-told c.args.now rows c.args.owners.now c.iter-name-items.ensures.ordered zero_id
