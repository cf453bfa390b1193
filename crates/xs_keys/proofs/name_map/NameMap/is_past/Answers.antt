use Rattle.std.proofs.Common.{sym, ◌∙◌}
use Rattle.std.specs.Ordering.{nat_cmp}
use Rattle.std.specs.Cmp.Lexicographic.{slice_cmp}
use Rattle.xs_group.proofs.Ordered.{is_sorted-from}
use Rattle.xs_keys.proofs.CodeMaps.{past-entries}
use Rattle.xs_keys.proofs.LastNames.{past-last, past-nothing}
use Rattle.xs_keys.proofs.name_map.NameMap.is_past.Goals as goal

pub returns-then-len-eq0 : goal.returns-then-len-eq0
returns-then-len-eq0 g c =
    let m = c.self.inside.entries in
    rw (← c.self.view_is) (past-nothing m.entries c.args.name.now (sym c.len.ensures.len ∙ c.if-len-eq0.true)
    ∙ sym (past-entries m c.args.name.now c.len.ensures.ordered))

pub returns-in-Some : goal.returns-in-Some
returns-in-Some g c =
    let m = c.self.inside.entries in
    let ordered = c.len.ensures.ordered in
    rw (← c.self.view_is) (c.lt.ensures
    ∙ past-last m.entries c.args.name.now _ _ (is_sorted-from (slice_cmp nat_cmp) m.entries ordered) c.in-Some.ensures.last
    ∙ sym (past-entries m c.args.name.now ordered))
