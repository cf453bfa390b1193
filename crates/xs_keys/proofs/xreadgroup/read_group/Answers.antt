use Rattle.std.proofs.Common.{◌≡◌, ap, ◌∙◌}
use Rattle.std.proofs.lemmas.Result.{IfOk-weaker}
use Rattle.xs_group.specs.declared.delivery.Delivery.{Delivery}
use Rattle.xs_group.specs.Deliveries.{row_ids, delivery_of, history_of}
use Rattle.xs_keys.specs.Terms.{ids_of, new_ids, reread_ids}
use Rattle.xs_keys.proofs.ReadSteps.{ids-new, ids-shown}
use Rattle.xs_keys.proofs.xreadgroup.read_group.Goals as goal

pub returns-in-New-clause-rows : goal.returns-in-New-clause-rows
returns-in-New-clause-rows c =
    let read = c.args.read.now in
    let present = ids_of c.args.stream.now.entries in
    let group = c.args.group.now in
    rw c.in-New.is (IfOk-weaker c.deliver.result (λ d. d.delivery ≡ delivery_of read.consumer read.limit read.noack present group) (λ d. row_ids d.delivery.rows ≡ new_ids read.limit group.cursor present)
    (λ d e. ap (λ (k : Delivery). row_ids k.rows) e ∙ ids-new (new_ids read.limit group.cursor present)) c.deliver.ensures.answer)

pub returns-in-After-clause-rows : goal.returns-in-After-clause-rows
returns-in-After-clause-rows c =
    let read = c.args.read.now in
    let present = ids_of c.args.stream.now.entries in
    let group = c.args.group.now in
    rw c.in-After.is (IfOk-weaker c.history.result (λ d. d.delivery ≡ history_of read.consumer read.limit c.in-After.id present group) (λ d. row_ids d.delivery.rows ≡ reread_ids read.consumer read.limit c.in-After.id group.rows.entries)
    (λ d e. ap (λ (k : Delivery). row_ids k.rows) e ∙ ids-shown group.rows present (reread_ids read.consumer read.limit c.in-After.id group.rows.entries)) c.history.ensures.answer)
