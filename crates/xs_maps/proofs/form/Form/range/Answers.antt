use Rattle.std.proofs.Common.{sym, ap, ◌∙◌, subst}
use Rattle.std.specs.BTreeMap.{IsOrdered}
use Rattle.std.specs.BTreeMap.Range.{entries_between}
use Rattle.std_collections.specs.Layout.BTreeMapQueries.{span}
use Rattle.std_collections.proofs.TreeMap.Lent.{span_between}
use Rattle.xs_maps.specs.Seen.{seen, seen_few}
use Rattle.xs_maps.proofs.form.Form.range.Goals as goal

pub returns-in-Few-clause-between : goal.returns-in-Few-clause-between
returns-in-Few-clause-between g c = λ told.
    let cmp = g.K.Ord.cmp in
    let lo = g.R.RangeBounds.start_bound c.args.range in
    let hi = g.R.RangeBounds.end_bound c.args.range in
    let is = ap seen c.in-Few.is in
    c.part.ensures ∙ (λ i. span cmp (c.start_bound.ensures told i) (c.end_bound.ensures told i) (c.as_slice.ensures.value i))
    ∙ span_between g.met.K.Ord.total lo hi (seen_few c.in-Few.few) (subst (IsOrdered cmp) is c.requires.ordered)
    ∙ ap (λ m. entries_between cmp lo hi m.entries) (sym is)
