use Rattle.std.proofs.Common.{◌≡◌, take, filter}
use Rattle.xs_stream.specs.declared.id.Id.{Id}
use Rattle.xs_stream.specs.Id.{has_id}
use Rattle.xs_stream.specs.StreamContent.{without, AllUpTo, ids_of, greatest}
use Rattle.xs_stream.specs.Blocks.{all_of, IsLaidDown, block_ids}
use Rattle.xs_stream.proofs.entries.Entries.remove_all.Given as goal

-- the ids so far are removed
abbrev pub invariant-loop-id : goal.invariant-loop-id
invariant-loop-id l = record {
  entries : all_of l.self ≡ without (take l.id-index l.ids) (all_of l.fn.self);
  greatest : l.greatest ≡ greatest l.fn.other (filter (has_id (take l.id-index l.ids)) (ids_of (all_of l.fn.self)));
  laid_down : IsLaidDown l.self;
  filed_up_to_top : (top : Id) → AllUpTo top (block_ids l.fn.self) → AllUpTo top (block_ids l.self);
}
