use Rattle.std.proofs.Common.{◌≡◌, true, length, refl, sym, ap, subst, ◌∙◌, arith}
use Rattle.xs_group.specs.GroupState.{GroupState}
use Rattle.xs_keys.specs.Event.{Bytes}
use Rattle.xs_keys.specs.NextName.{is_past_names}
use Rattle.xs_snapshot.specs.NextPiece.{last_name}
use Rattle.xs_snapshot.specs.Restorable.{IsRestorableGroup}
use Rattle.xs_snapshot.proofs.RestorableParts.{group-consumer}
use Rattle.xs_snapshot.proofs.PiecesBehind.{consumer-behind}
use Rattle.xs_snapshot.proofs.LastConsumers.{last-more, consumers-more}
use Rattle.xs_snapshot.proofs.group_builder.GroupBuilder.put_consumer.Goals as goal

pub invariant_of-self-2 : goal.invariant_of-self-2
invariant_of-self-2 c =
    let group = c.self.inside.group in
    let past = subst (λ (e : Bytes × GroupState). is_past_names c.args.name e.1.consumers ≡ true) (sym c.self.view_is) (sym c.is_past.ensures ∙ c.if-not-is_past.false) in
    let made = c.in_ok-add_consumer.ensures.ok in
    record {
      last_is = rw made (sym (ap last_name (consumers-more c.args.name c.args.moment group past) ∙ last-more group.consumers.entries (c.args.name, c.args.moment)));
      restorable = subst IsRestorableGroup (sym made) (group-consumer c.args.name c.args.moment group past c.self.invariant.restorable);
    }

pub returns-clause-behind : goal.returns-clause-behind
returns-clause-behind c = λ put.
    let name = c.self.inside.name in
    let group = c.self.inside.group in
    let past = subst (λ (e : Bytes × GroupState). is_past_names c.args.name e.1.consumers ≡ true) (sym c.self.view_is) (sym c.is_past.ensures ∙ c.if-not-is_past.false) in
    let made = c.in_ok-add_consumer.ensures.ok in
    let none : length group.rows.entries ≡ 0 = omega arith in
    rw (← c.self.view_is) (consumer-behind (name, group) (name, c.add_consumer.new.self) c.args.name c.args.moment refl (ap (λ (g : GroupState). g.cursor) made) (ap (λ (g : GroupState). g.rows.entries) made) none
    (ap (λ (g : GroupState). g.consumers.entries) made ∙ consumers-more c.args.name c.args.moment group past))
