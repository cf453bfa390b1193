use Rattle.xs_group.proofs.Terms.{None, leb, map, filter, ap, sym, ◌∙◌, arith, idle_time, pending_row, is_selected}
use Rattle.xs_group.proofs.Ordered.{entries-rows_of}
use Rattle.xs_group.proofs.ReportRows.{rows-between}
use Rattle.xs_group.proofs.reports.rows_within.Goals as goal

pub loop-id-init : goal.loop-id-init
loop-id-init c =
    let s = c.args.selection.now in
    let is = c.into_iter-id-iterator.ensures.into_iter_gives ∙ c.range-within.ensures.between tt in
    rw (c.in_ok-found.ensures.items) (
      ap (λ es. map (pending_row s.moment) (filter (λ e. leb s.min_idle (idle_time s.moment e.1.time)) es)) is
          ∙ ap (map (pending_row s.moment)) (rows-between s c.args.rows.now.entries
          ∙ ap (filter (is_selected s.range s.min_idle s.moment None))
          (sym (entries-rows_of c.args.rows.now c.range-within.ensures.ordered))),
      omega arith,
    )
