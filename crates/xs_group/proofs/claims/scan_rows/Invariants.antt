use Rattle.xs_group.proofs.Terms.{◌≡◌, ◌+◌, ◌<◌, ◌≤◌, ◌++◌, map, filter, length, drop, ids_of, is_taken, is_removed}
use Rattle.xs_group.proofs.Terms.{is_hit, from_start, first_or_zero, rows_of, ids_scanned_after}
use Rattle.xs_group.proofs.Scanning.{AreFound}
use Rattle.xs_group.proofs.claims.scan_rows.Given as goal

-- what is found so far and in the rest is what there is to find
abbrev pub invariant-loop-id : goal.invariant-loop-id
invariant-loop-id l =
    let rows = (rows_of l.rows.entries).entries in
    let present = ids_of l.stream.entries in
    let hit = is_hit rows present l.terms.moment l.terms.rule in
    let all = from_start l.fn.start rows in
    let part = ids_scanned_after hit l.limit 0 0 all in
    let rest = map (λ e. e.0) l.id-iterator in
    let more = ids_scanned_after hit l.limit l.hits l.seen rest in
    record {
      few : l.hits ≤ l.seen;
      small : l.seen + length l.id-iterator < 18446744073709551616;
      found : AreFound rows l.id-iterator;
      taken : l.found.take.items ++ filter (is_taken rows present l.terms.moment l.terms.rule) more
          ≡ filter (is_taken rows present l.terms.moment l.terms.rule) part;
      removed : l.found.removed.items ++ filter (is_removed rows present) more ≡ filter (is_removed rows present) part;
      cursor : first_or_zero (drop (length more) rest) ≡ first_or_zero (drop (length part) all);
    }
