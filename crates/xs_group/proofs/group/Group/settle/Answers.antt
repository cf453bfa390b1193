use Rattle.xs_group.proofs.Terms.{is_any, sym, ap, ◌∙◌, ◌+◌, length, GroupState, row_after_claim}
use Rattle.xs_group.proofs.group.Group.settle.Goals as goal
use Rattle.xs_group.specs.GroupRoom.{bytes_of_names}
use Rattle.xs_group.proofs.CountedNames.{counted-there}
use Rattle.xs_group.proofs.RemovedRows.{up_to-change}
use Rattle.xs_group.proofs.CarriedOutClaims.{apart-claim}

pub settle-requires : goal.settle-requires
settle-requires c = apart-claim c.args.self.now c.args.now c.args.rule.now c.args.claim.now c.requires

pub invariant_of-self-2 : goal.invariant_of-self-2
invariant_of-self-2 c =
    rw c.in_ok-settle.ensures.ok (record {
      up_to_cursor = up_to-change (row_after_claim c.args.consumer.now c.args.now c.args.rule.now c.args.claim.now) c.self.inside.cursor c.self.inside.pending.rows c.self.invariant.up_to_cursor;
      names_counted = counted-there c.self.inside.pending.consumers c.args.consumer.now c.args.now (is_any c.args.claim.now.take) c.has_consumer-there.result c.self.inside.name_bytes c.in_ok-name_bytes.name_bytes c.either-self-inside.result
          c.self.invariant.names_counted (c.in_ok-name_bytes.ensures ∙ ap (λ (g : GroupState). bytes_of_names g.consumers + length c.args.consumer.now) (sym c.self.view_is))
          c.has_consumer-there.ensures c.either-self-inside.ensures;
    })
