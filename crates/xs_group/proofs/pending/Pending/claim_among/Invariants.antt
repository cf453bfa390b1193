use Rattle.xs_group.proofs.Terms.{◌≡◌, take, filter, ids_of, is_taken, is_removed}
use Rattle.xs_group.proofs.pending.Pending.claim_among.Given as goal

-- which of the ids so far are claimed and removed
abbrev pub invariant-loop-id : goal.invariant-loop-id
invariant-loop-id l =
    (l.found.take.items ≡ filter (is_taken l.self.rows.entries (ids_of l.stream.entries) l.terms.moment l.terms.rule)
    (take l.id-index l.ids))
    × (l.found.removed.items ≡ filter (is_removed l.self.rows.entries (ids_of l.stream.entries)) (take l.id-index l.ids))
