use Rattle.std.proofs.Common.{◌≡◌, suc, length, sym, ap, ◌∙◌, subst, arith}
use Rattle.std_collections.proofs.Seek.{AboveFirst}
use Rattle.xs_maps.proofs.Places.{less-at, equal-at, above-all, above-more}
use Rattle.xs_maps.proofs.few.place.Goals as goal

pub returns-in-Less : goal.returns-in-Less
returns-in-Less g c =
    let compare = g.K.Ord.cmp c.args.key.now in
    let entry = c.index-entries-at.result in
    sym (less-at compare c.args.entries.now c.loop-at.at entry c.loop-at-test.true c.loop-at.invariant
    (ap (λ (e : g.row.K.Denot × g.row.V.Denot). compare e.0) (sym c.index-entries-at.is) ∙ sym (c.in-Less.ensures)))

pub returns-in-Equal : goal.returns-in-Equal
returns-in-Equal g c =
    let compare = g.K.Ord.cmp c.args.key.now in
    let entry = c.index-entries-at.result in
    sym (equal-at compare c.args.entries.now c.loop-at.at entry c.loop-at-test.true c.loop-at.invariant
    (ap (λ (e : g.row.K.Denot × g.row.V.Denot). compare e.0) (sym c.index-entries-at.is) ∙ sym (c.in-Equal.ensures)))

pub loop-at-preserved : goal.loop-at-preserved
loop-at-preserved g c =
    let compare = g.K.Ord.cmp c.args.key.now in
    let entry = c.index-entries-at.result in
    subst (AboveFirst compare c.args.entries.now) {x = suc c.loop-at.at} (omega arith) (above-more compare c.args.entries.now c.loop-at.at entry c.loop-at-test.true c.loop-at.invariant
    (ap (λ (e : g.row.K.Denot × g.row.V.Denot). compare e.0) (sym c.index-entries-at.is) ∙ sym (c.in-Greater.ensures)))

pub returns : goal.returns
returns g c =
    let compare = g.K.Ord.cmp c.args.key.now in
    let end : c.loop-at.at ≡ length c.args.entries.now = omega arith in
    sym (above-all compare c.args.entries.now (subst (AboveFirst compare c.args.entries.now) end c.loop-at.invariant))
