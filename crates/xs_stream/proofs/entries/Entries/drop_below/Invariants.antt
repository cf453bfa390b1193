use Rattle.std.proofs.Common.{◌≡◌, length}
use Rattle.xs_stream.specs.declared.id.Id.{Id}
use Rattle.xs_stream.specs.declared.trim.Trim.TheVariants.{MinId}
use Rattle.xs_stream.specs.StreamContent.{ids_of, Ascends, entries_after_trim, AllUpTo}
use Rattle.xs_stream.specs.Blocks.{all_of, IsLaidDown, block_ids}
use Rattle.xs_stream.proofs.entries.Entries.drop_below.Given as goal

-- the trim leaves the same entries
abbrev pub invariant-loop : goal.invariant-loop
invariant-loop l = record {
  kept : entries_after_trim (MinId l.fn.low) (all_of l.self) ≡ entries_after_trim (MinId l.fn.low) (all_of l.fn.self);
  ascends : Ascends (ids_of (all_of l.self));
  laid_down : IsLaidDown l.self;
  filed_up_to_top : (top : Id) → AllUpTo top (block_ids l.fn.self) → AllUpTo top (block_ids l.self);
}

abbrev pub decreases-loop : goal.decreases-loop
decreases-loop l = length l.self.older.entries
