use Rattle.xs_group.proofs.Terms.{◌≡◌, ℕ, List, map, option_and_then, into_iter_items, Id, seen_at, indexed_row}
use Rattle.xs_group.proofs.Terms.{row_after_move, AreDistinct, AreAgreedBut}
use Rattle.xs_group.proofs.moving.move_rows.Given as goal

-- what is left to do gives the final rows
abbrev pub invariant-loop-share : goal.invariant-loop-share
invariant-loop-share l = record {
  left : into_iter_items l.share-iterator ≡ map (λ x. l.fn.name) l.todo;
  apart : AreDistinct l.todo;
  agreed : AreAgreedBut l.rows.entries l.owners.entries l.fn.name l.todo;
  rows : (x : Id) → option_and_then (row_after_move l.fn.name l.terms.moment l.terms.rule l.todo x)
      (indexed_row l.rows.entries x)
      ≡ option_and_then (row_after_move l.fn.name l.terms.moment l.terms.rule l.fn.ids x) (indexed_row l.fn.rows.entries x);
  seen : (n : List ℕ) → seen_at l.owners.entries n ≡ seen_at l.fn.owners.entries n;
}
