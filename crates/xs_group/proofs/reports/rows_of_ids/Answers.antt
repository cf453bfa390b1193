use Rattle.xs_group.proofs.Terms.{◌≡◌, leb, map, filter, take, ap, sym, ◌∙◌, arith, common_steps, is_within, idle_time}
use Rattle.xs_group.proofs.Terms.{rows_of, is_owner, pending_row}
use Rattle.xs_group.proofs.Views.{get-rows_of}
use Rattle.xs_group.proofs.Ordered.{ids-owned}
use Rattle.xs_group.proofs.ReportRows.{listed_rows, among-between, asked-owned}
use Rattle.xs_group.proofs.reports.rows_of_ids.Goals as goal

pub loop-id-init : goal.loop-id-init
loop-id-init c =
    let s = c.args.selection.now in
    let is = c.into_iter-id-iterator.ensures.into_iter_gives ∙ c.range-within.ensures.between tt in
    rw (c.in_ok-found.ensures.items) (
      ap (λ ids. map (pending_row s.moment)
          (filter (λ e. leb s.min_idle (idle_time s.moment e.1.time)) (listed_rows c.args.rows.now.entries ids))) is
          ∙ ap (λ es. map (pending_row s.moment) (filter (λ e. leb s.min_idle (idle_time s.moment e.1.time)) es))
          (among-between s.range c.args.rows.now.entries c.args.ids.now.keys),
      omega arith,
    )

pub returns : goal.returns
returns c = λ name own.
    let s = c.args.selection.now in
    let rows = c.args.rows.now.entries in
    let ids = ids-owned c.args.ids.now.keys (rows_of rows) name c.range-within.ensures.ordered (λ x. own x
    ∙ ap (λ o. is_owner o name) (sym (get-rows_of rows x))) in
    let first : c.loop-id.found.items
    ≡ take s.limit (map (pending_row s.moment)
    (filter (λ e. leb s.min_idle (idle_time s.moment e.1.time))
    (filter (λ e. is_within s.range e.0) (listed_rows rows c.args.ids.now.keys)))) = grind (arith, common_steps) in
    first ∙ ap (λ es. take s.limit (map (pending_row s.moment) es)) (asked-owned s name rows c.args.ids.now.keys ids)
