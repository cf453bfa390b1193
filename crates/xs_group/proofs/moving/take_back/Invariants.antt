use Rattle.xs_group.proofs.Terms.{◌≡◌, ◌&&◌, ℕ, List, take, not, Id, has_id, is_same_name, has_pending_id}
use Rattle.xs_group.proofs.Terms.{seen_at}
use Rattle.xs_group.proofs.Terms.{is_owner, indexed_row}
use Rattle.xs_group.proofs.moving.take_back.Given as goal

-- the ids so far are given back, and the moments are the same
abbrev pub invariant-loop-id : goal.invariant-loop-id
invariant-loop-id l = record {
  seen : (n : List ℕ) → seen_at l.owners.entries n ≡ seen_at l.fn.owners.entries n;
  back : (n : List ℕ) → (x : Id) → has_pending_id l.owners.entries n x
      ≡ (has_pending_id l.fn.owners.entries n x && not (is_same_name n l.name && (has_id (take l.id-index l.ids) x && not (is_owner (indexed_row l.rows.entries x) l.name))));
}
