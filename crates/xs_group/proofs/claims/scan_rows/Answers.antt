use Rattle.xs_group.proofs.Terms.{◌≡◌, ◌+◌, ◌*◌, ◌<◌, ◌≤◌, ◌++◌, ◌||◌, List, [], ◌∷◌, map, filter, length, drop, true}
use Rattle.xs_group.proofs.Terms.{false, cond, leb, Some, sym, ap, ◌∙◌, subst, arith, append-nil, nat_tests}
use Rattle.xs_group.proofs.Terms.{range_contains, entries_between, Included, Unbounded, Id, id_cmp, has_id, ids_of}
use Rattle.xs_group.proofs.Terms.{RowState, is_taken, is_removed, is_hit, from_start, first_or_zero, rows_of}
use Rattle.xs_group.proofs.Terms.{verdict_of, with_taken, with_removed, hits_of, ids_scanned_after}
use Rattle.xs_group.proofs.ChosenIds.{taken-verdict, removed-verdict, hits-verdict, one_most}
use Rattle.xs_group.proofs.Ordered.{entries-rows_of}
use Rattle.xs_group.proofs.Scanning.{AreFound, found-all, found-filter, keys-between, scanned-on, scanned-enough}
use Rattle.xs_group.proofs.Scanning.{taken-on, removed-on, scan-ended}
use Rattle.xs_group.proofs.claims.scan_rows.Goals as goal
use Rattle.xs_group.proofs.claims.scan_rows.Goals.{then-hits-limit-via-then-hits-limit}
use Rattle.xs_group.proofs.claims.scan_rows.Goals.{then-hits-limit-via-else-hits-limit+then-seen-limit}

abbrev keys : List (Id × RowState) → List Id
keys es = map (λ e. e.0) es

pub loop-id-init : goal.loop-id-init
loop-id-init c =
    let rows = (rows_of c.args.rows.now.entries).entries in
    let present = ids_of c.args.stream.now.entries in
    let hit = is_hit rows present c.args.terms.now.moment c.args.terms.now.rule in
    let is : c.into_iter-id-iterator.result ≡ entries_between id_cmp (Included c.args.start) Unbounded rows =
    c.into_iter-id-iterator.ensures.into_iter_gives ∙ c.range-past.ensures.between tt
    ∙ ap (entries_between id_cmp (Included c.args.start) Unbounded)
    (sym (entries-rows_of c.args.rows.now c.range-past.ensures.ordered)) in
    let all : keys c.into_iter-id-iterator.result ≡ from_start c.args.start rows = ap keys is ∙ keys-between c.args.start rows in
    let few : length c.into_iter-id-iterator.result < 18446744073709551616 = omega (arith, c.range-past.ensures.fits, ap length c.into_iter-id-iterator.ensures.into_iter_gives) in
    record {
      few = omega arith;
      small = omega arith;
      found = subst (AreFound rows) (sym is)
          (found-filter rows rows (λ e. range_contains id_cmp (Included c.args.start) Unbounded e.0)
          (found-all rows (rows_of c.args.rows.now.entries).sorted));
      taken = (λ i. c.new-found.ensures.take i ++ filter
          (is_taken rows present c.args.terms.now.moment c.args.terms.now.rule)
          (ids_scanned_after hit c.args.limit 0 0 (all i)));
      removed = (λ i. c.new-found.ensures.removed i ++ filter (is_removed rows present) (ids_scanned_after hit c.args.limit 0 0 (all i)));
      cursor = ap (λ ks. first_or_zero (drop (length (ids_scanned_after hit c.args.limit 0 0 ks)) ks)) all;
    }

pub loop-id-preserved : goal.loop-id-preserved
loop-id-preserved c =
    let rows = (rows_of c.args.rows.now.entries).entries in
    let present = ids_of c.args.stream.now.entries in
    let now = c.args.terms.now.moment in
    let rule = c.args.terms.now.rule in
    let limit = c.args.limit in
    let hit = is_hit rows present now rule in
    let id = c.in-Some.id.now in
    let row = c.in-Some.entry.now in
    let inv = c.loop-id.invariant in
    let steps : c.loop-id.id-iterator ≡ (id, row) ∷ c.next.new.self = c.in-Some.ensures.steps in
    let found = subst (AreFound rows) steps inv.found in
    let no_hits : leb limit c.loop-id.hits ≡ false = grind (arith, nat_tests) in
    let no_ids : leb (10 * limit) c.loop-id.seen ≡ false = grind (arith, nat_tests) in
    let v = verdict_of (Some row) (has_id present id) now rule in
    let hits : cond (hit id) 1 0 ≡ c.hits-hits.result = hits-verdict rows present now rule (Some row) id found.0 ∙ ap hits_of (sym c.judge-verdict.ensures) ∙ sym c.hits-hits.ensures in
    let on : ids_scanned_after hit limit c.loop-id.hits c.loop-id.seen (keys c.loop-id.id-iterator) ≡ id ∷ ids_scanned_after hit limit (c.loop-id.hits + c.hits-hits.result) (c.loop-id.seen + 1) (keys c.next.new.self) =
    ap (λ es. ids_scanned_after hit limit c.loop-id.hits c.loop-id.seen (keys es)) steps ∙ scanned-on hit limit c.loop-id.hits c.loop-id.seen id (keys c.next.new.self) no_hits no_ids
    ∙ ap (λ h. id ∷ ids_scanned_after hit limit (c.loop-id.hits + h) (c.loop-id.seen + 1) (keys c.next.new.self)) hits in
    let more = ids_scanned_after hit limit (c.loop-id.hits + c.hits-hits.result) (c.loop-id.seen + 1) (keys c.next.new.self) in
    let one : c.hits-hits.result ≤ 1 = one_most v _ (c.hits-hits.ensures ∙ ap hits_of c.judge-verdict.ensures) in
    let lengths = ap length steps in
    record {
      few = omega (arith, inv.few, one);
      small = omega (arith, inv.small, lengths);
      found = found.1;
      taken = ap (λ t. t ++ filter (is_taken rows present now rule) more) (c.in_ok-add.ensures.take ∙ ap (λ k. with_taken k c.loop-id.found.take.items id) c.judge-verdict.ensures)
          ∙ taken-on v (is_taken rows present now rule) c.loop-id.found.take.items id more (taken-verdict rows present now rule (Some row) id found.0)
          ∙ ap (λ p. c.loop-id.found.take.items ++ filter (is_taken rows present now rule) p) (sym on) ∙ inv.taken;
      removed = ap (λ t. t ++ filter (is_removed rows present) more) (c.in_ok-add.ensures.removed ∙ ap (λ k. with_removed k c.loop-id.found.removed.items id) c.judge-verdict.ensures)
          ∙ removed-on v (is_removed rows present) c.loop-id.found.removed.items id more (removed-verdict rows present now rule (Some row) id found.0)
          ∙ ap (λ p. c.loop-id.found.removed.items ++ filter (is_removed rows present) p) (sym on) ∙ inv.removed;
      cursor = (λ i. first_or_zero (drop (length (sym on i)) (sym (ap keys steps) i))) ∙ inv.cursor;
    }

pub returns-then-hits-limit : goal.returns-then-hits-limit
returns-then-hits-limit c =
    let rows = (rows_of c.args.rows.now.entries).entries in
    let present = ids_of c.args.stream.now.entries in
    let now = c.args.terms.now.moment in
    let rule = c.args.terms.now.rule in
    let limit = c.args.limit in
    let hit = is_hit rows present now rule in
    let inv = c.loop-id.invariant in
    let steps : c.loop-id.id-iterator ≡ (c.in-Some.id.now, c.in-Some.entry.now) ∷ c.next.new.self = c.in-Some.ensures.steps in
    let enough : (leb limit c.loop-id.hits || leb (10 * limit) c.loop-id.seen) ≡ true = elim c.then-hits-limit.branch [
      | then-hits-limit-via-then-hits-limit w ↦ grind (arith, nat_tests)
      | then-hits-limit-via-else-hits-limit+then-seen-limit w ↦ grind (arith, nat_tests)
    ] in
    let stop : ids_scanned_after hit limit c.loop-id.hits c.loop-id.seen (keys c.loop-id.id-iterator) ≡ [] =
    ap (λ es. ids_scanned_after hit limit c.loop-id.hits c.loop-id.seen (keys es)) steps ∙ scanned-enough hit limit c.loop-id.hits c.loop-id.seen c.in-Some.id.now (keys c.next.new.self) enough in
    ap (λ claim. record { cursor = c.in-Some.id.now; claim = claim }) c.into_claim.ensures
    ∙ scan-ended rows present now rule c.args.start limit c.in-Some.id.now c.loop-id.found.take.items c.loop-id.found.removed.items
    (sym (append-nil c.loop-id.found.take.items) ∙ ap (λ p. c.loop-id.found.take.items ++ filter (is_taken rows present now rule) p) (sym stop) ∙ inv.taken)
    (sym (append-nil c.loop-id.found.removed.items) ∙ ap (λ p. c.loop-id.found.removed.items ++ filter (is_removed rows present) p) (sym stop) ∙ inv.removed)
    ((λ i. first_or_zero (drop (length (sym stop i)) (sym (ap keys steps) i))) ∙ inv.cursor)

pub returns : goal.returns
returns c =
    let rows = (rows_of c.args.rows.now.entries).entries in
    let present = ids_of c.args.stream.now.entries in
    let now = c.args.terms.now.moment in
    let rule = c.args.terms.now.rule in
    let limit = c.args.limit in
    let hit = is_hit rows present now rule in
    let inv = c.loop-id.invariant in
    let none : c.loop-id.id-iterator ≡ [] = c.in-None.ensures.steps.0 in
    let stop : ids_scanned_after hit limit c.loop-id.hits c.loop-id.seen (keys c.loop-id.id-iterator) ≡ [] = ap (λ es. ids_scanned_after hit limit c.loop-id.hits c.loop-id.seen (keys es)) none in
    ap (λ claim. record { cursor = record { ms = 0; seq = 0 }; claim = claim }) c.into_claim-2.ensures
    ∙ scan-ended rows present now rule c.args.start limit (record { ms = 0; seq = 0 }) c.loop-id.found.take.items c.loop-id.found.removed.items
    (sym (append-nil c.loop-id.found.take.items) ∙ ap (λ p. c.loop-id.found.take.items ++ filter (is_taken rows present now rule) p) (sym stop) ∙ inv.taken)
    (sym (append-nil c.loop-id.found.removed.items) ∙ ap (λ p. c.loop-id.found.removed.items ++ filter (is_removed rows present) p) (sym stop) ∙ inv.removed)
    ((λ i. first_or_zero (drop (length (sym stop i)) (sym (ap keys none) i))) ∙ inv.cursor)
