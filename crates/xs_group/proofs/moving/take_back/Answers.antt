use Rattle.xs_group.proofs.Terms.{◌≡◌, ◌&&◌, get_or, take, ap, ◌∙◌, not, arith, take_more, has_id, is_same_name}
use Rattle.xs_group.proofs.Terms.{has_pending_id}
use Rattle.xs_group.proofs.Terms.{is_owner, indexed_row}
use Rattle.std.proofs.lemmas.List.{take_all}
use Rattle.xs_group.proofs.ChosenIds.{has-more}
use Rattle.xs_group.proofs.MovedRows.{agreed-again}
use Rattle.xs_group.proofs.moving.take_back.Goals as goal

pub loop-id-preserved : goal.loop-id-preserved
loop-id-preserved c =
    let next = take_more c.args.ids.now c.loop-id.id-index (record { ms = 0; seq = 0 }) c.loop-id-test.true in
    let id = get_or c.args.ids.now c.loop-id.id-index (record { ms = 0; seq = 0 }) in
    record {
      seen = λ q. c.take_back_one.ensures.seen q ∙ c.loop-id.invariant.seen q;
      back = λ q x. grind (
        arith,
        c.take_back_one.ensures.ids q x,
        c.loop-id.invariant.back q x,
        has-more (take c.loop-id.id-index c.args.ids.now) id x,
      );
    }

pub returns-clause-agreed : goal.returns-clause-agreed
returns-clause-agreed c =
    let name = c.args.name.now in
    let rows = c.args.rows.now.entries in
    let all : take c.loop-id.id-index c.args.ids.now ≡ c.args.ids.now = take_all c.loop-id.id-index c.args.ids.now (omega arith) in
    agreed-again rows c.args.owners.now.entries c.loop-id.owners.entries name c.requires.0 c.args.ids.now c.requires.1 c.requires.2
    (λ q x. c.loop-id.invariant.back q x ∙ ap (λ ids. has_pending_id c.args.owners.now.entries q x && not (is_same_name q name && (has_id ids x && not (is_owner (indexed_row rows x) name)))) all)
