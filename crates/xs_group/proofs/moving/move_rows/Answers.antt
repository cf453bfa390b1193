use Rattle.xs_group.proofs.Terms.{◌≡◌, map, ◌∷◌, sym, ap, ◌∙◌, subst, into_iter_items, Id, indexed_row, AreDistinct}
use Rattle.xs_group.proofs.Terms.{AreAgreedBut, arith}
use Rattle.xs_group.proofs.MovedRows.{rows-left, tails}
use Rattle.xs_group.proofs.moving.move_rows.Goals as goal

pub loop-share-preserved : goal.loop-share-preserved
loop-share-preserved c =
    let inv = c.loop-share.invariant in
    let id = c.in-Some-split_first.id.now in
    let rest = c.in-Some-split_first.rest.now in
    let name = c.args.name.now in
    let todo : c.loop-share.todo.now ≡ id ∷ rest = c.in-Some-split_first.ensures.cases.0 in
    let apart = subst AreDistinct todo inv.apart in
    let steps : into_iter_items c.loop-share.share-iterator ≡ c.in-Some.share ∷ into_iter_items c.next.new.self = c.in-Some.ensures.steps.0 in
    record {
      left = tails c.in-Some.share name (into_iter_items c.next.new.self) (map (λ (x : Id). name) rest) (sym steps ∙ inv.left ∙ ap (map (λ (x : Id). name)) todo);
      apart = apart.1;
      agreed = c.move_row.ensures.agreed rest apart.0
          (subst (AreAgreedBut c.loop-share.rows.entries c.loop-share.owners.entries name) todo inv.agreed);
      rows = λ x. grind (
        arith,
        rows-left name c.args.terms.now.moment c.args.terms.now.rule id rest x
            (indexed_row c.loop-share.rows.entries x) (indexed_row c.move_row.new.rows.entries x) apart.0
            (c.move_row.ensures.rows x),
        inv.rows x,
      );
      seen = λ n. c.move_row.ensures.seen n ∙ inv.seen n;
    }
