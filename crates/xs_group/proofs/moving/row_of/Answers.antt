use Rattle.xs_group.proofs.Terms.{sym, ◌∙◌, arith}
use Rattle.xs_group.proofs.ByConsumer.{is_same_name-eq}
use Rattle.xs_group.proofs.moving.row_of.Goals as goal

pub returns-in_err-entry-clause-found : goal.returns-in_err-entry-clause-found
returns-in_err-entry-clause-found c = λ agreed x e. grind (arith, agreed c.args.name.now c.in_ok-id.id.now)

pub returns-then-not-are_equal_names-clause-found : goal.returns-then-not-are_equal_names-clause-found
returns-then-not-are_equal_names-clause-found c = λ agreed x e. grind (arith, agreed c.args.name.now c.in_ok-id.id.now)

pub returns-clause-whose : goal.returns-clause-whose
returns-clause-whose c = sym c.consumer.ensures ∙ is_same_name-eq c.consumer.result.now c.args.name.now (sym c.if-not-are_equal_names.ensures)
