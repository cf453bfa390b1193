use Rattle.std.proofs.Common.{◌≡◌, ◌+◌, drop, length}
use Rattle.xs_stream.specs.declared.id.Id.{Id}
use Rattle.xs_stream.specs.StreamContent.{AllUpTo}
use Rattle.xs_stream.specs.Blocks.{all_of, IsLaidDown, block_ids}
use Rattle.xs_stream.proofs.entries.Entries.drop_first.Given as goal

-- dropping what is left to drop leaves the same entries
abbrev pub invariant-loop-left : goal.invariant-loop-left
invariant-loop-left l = record {
  entries : drop l.left (all_of l.self) ≡ drop l.count (all_of l.fn.self);
  laid_down : IsLaidDown l.self;
  filed_up_to_top : (top : Id) → AllUpTo top (block_ids l.fn.self) → AllUpTo top (block_ids l.self);
}

abbrev pub decreases-loop-left : goal.decreases-loop-left
decreases-loop-left l = l.left + length l.self.older.entries
