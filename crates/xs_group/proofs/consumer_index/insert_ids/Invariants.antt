use Rattle.xs_group.proofs.Terms.{◌≡◌, ◌||◌, take, contains, Id, id_cmp, has_id}
use Rattle.xs_group.proofs.consumer_index.insert_ids.Given as goal

-- the ids so far are inserted
abbrev pub invariant-loop-id : goal.invariant-loop-id
invariant-loop-id l = (x : Id) → contains id_cmp l.own x ≡ (contains id_cmp l.fn.own x || has_id (take l.id-index l.ids) x)
