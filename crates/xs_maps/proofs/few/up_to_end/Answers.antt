use Rattle.std.proofs.Common.{◌≡◌, suc, length, sym, ap, ◌∙◌, subst, arith}
use Rattle.std.specs.Ordering.{is_le}
use Rattle.std.specs.Range.Bound.{bound_map}
use Rattle.std_collections.specs.Layout.BTreeMapQueries.{end_test}
use Rattle.std_collections.proofs.Seek.{AboveFirst}
use Rattle.xs_maps.proofs.Places.{above-more}
use Rattle.xs_maps.proofs.Spans.{is-greater, until-at, until-all}
use Rattle.xs_maps.proofs.few.up_to_end.Goals as goal

pub returns-then-is_le : goal.returns-then-is_le
returns-then-is_le g c =
    let t = end_test g.K.Ord.cmp (bound_map (λ x. x.now) c.args.end) in
    let es = c.args.entries.now in
    let at = c.loop-at.at in
    let entry = c.index-entries-at.result in
    let le = ap (λ (e : g.row.K.Denot × g.row.V.Denot). is_le (t e.0)) (sym c.index-entries-at.is) ∙ ap is_le (sym c.end_order.ensures) ∙ sym c.is_le.ensures ∙ c.if-is_le.true in
    until-at t es at entry c.loop-at-test.true c.loop-at.invariant le

pub loop-at-preserved : goal.loop-at-preserved
loop-at-preserved g c =
    let t = end_test g.K.Ord.cmp (bound_map (λ x. x.now) c.args.end) in
    let es = c.args.entries.now in
    let at = c.loop-at.at in
    let entry = c.index-entries-at.result in
    let greater = ap (λ (e : g.row.K.Denot × g.row.V.Denot). t e.0) (sym c.index-entries-at.is) ∙ sym c.end_order.ensures ∙ is-greater c.end_order.result (sym c.is_le.ensures ∙ c.if-is_le.false) in
    subst (AboveFirst t es) {x = suc at} (omega arith) (above-more t es at entry c.loop-at-test.true c.loop-at.invariant greater)

pub returns : goal.returns
returns g c =
    let t = end_test g.K.Ord.cmp (bound_map (λ x. x.now) c.args.end) in
    let es = c.args.entries.now in
    let end : c.loop-at.at ≡ length es = omega arith in
    until-all t es (subst (AboveFirst t es) end c.loop-at.invariant)
