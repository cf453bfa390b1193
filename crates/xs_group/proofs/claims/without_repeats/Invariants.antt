use Rattle.xs_group.proofs.Terms.{◌≡◌, take, contains, Id, id_cmp, has_id, without_repeats}
use Rattle.xs_group.proofs.claims.without_repeats.Given as goal

-- the ids so far are seen, each at its first place
abbrev pub invariant-loop-id : goal.invariant-loop-id
invariant-loop-id l = (l.kept.items ≡ without_repeats (take l.id-index l.ids)) × ((q : Id) → contains id_cmp l.seen q ≡ has_id (take l.id-index l.ids) q)
