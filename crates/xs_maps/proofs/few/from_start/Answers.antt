use Rattle.std.proofs.Common.{◌≡◌, ◌-◌, suc, length, drop, sym, ap, ◌∙◌, subst, length-drop, arith}
use Rattle.std.proofs.lemmas.List.{take_all}
use Rattle.std.specs.Ordering.{is_le}
use Rattle.std.specs.Range.Bound.{bound_map}
use Rattle.std_collections.specs.Layout.BTreeMapQueries.{start_test}
use Rattle.std_collections.proofs.Seek.{AboveFirst}
use Rattle.xs_maps.proofs.Places.{above-more}
use Rattle.xs_maps.proofs.Spans.{is-greater, past-at, past-none}
use Rattle.xs_maps.proofs.few.from_start.Goals as goal

pub returns-then-is_le : goal.returns-then-is_le
returns-then-is_le g c =
    let t = start_test g.K.Ord.cmp (bound_map (λ x. x.now) c.args.start) in
    let es = c.args.entries.now in
    let at = c.loop-at.at in
    let entry = c.index-entries-at.result in
    let le = ap (λ (e : g.row.K.Denot × g.row.V.Denot). is_le (t e.0)) (sym c.index-entries-at.is) ∙ ap is_le (sym c.start_order.ensures) ∙ sym c.is_le.ensures ∙ c.if-is_le.true in
    take_all (length es - at) (drop at es) (omega (arith, length-drop at es)) ∙ past-at t es at entry c.loop-at-test.true c.loop-at.invariant le

pub loop-at-preserved : goal.loop-at-preserved
loop-at-preserved g c =
    let t = start_test g.K.Ord.cmp (bound_map (λ x. x.now) c.args.start) in
    let es = c.args.entries.now in
    let at = c.loop-at.at in
    let entry = c.index-entries-at.result in
    let greater = ap (λ (e : g.row.K.Denot × g.row.V.Denot). t e.0) (sym c.index-entries-at.is) ∙ sym c.start_order.ensures ∙ is-greater c.start_order.result (sym c.is_le.ensures ∙ c.if-is_le.false) in
    subst (AboveFirst t es) {x = suc at} (omega arith) (above-more t es at entry c.loop-at-test.true c.loop-at.invariant greater)

pub returns : goal.returns
returns g c =
    let t = start_test g.K.Ord.cmp (bound_map (λ x. x.now) c.args.start) in
    let es = c.args.entries.now in
    let end : c.loop-at.at ≡ length es = omega arith in
    past-none t es (subst (AboveFirst t es) end c.loop-at.invariant)
