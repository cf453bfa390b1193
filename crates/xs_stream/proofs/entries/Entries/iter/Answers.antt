use Rattle.std.proofs.Common.{List, [], ◌∷◌, sym, subst}
use Rattle.xs_stream.specs.declared.id.Id.{Id}
use Rattle.xs_stream.specs.declared.field.Field.{Field}
use Rattle.xs_stream.specs.BlockState.{BlockState}
use Rattle.xs_stream.specs.Blocks.{contents, AreFiled}
use Rattle.xs_stream.specs.Walk.{AreFilled}
use Rattle.xs_stream.proofs.entries.Entries.iter.Goals as goal

-- no filed block is empty
filled : (blocks : List (Id × BlockState)) (newest : List (Id × List Field)) → AreFiled (contents blocks) newest → AreFilled blocks
filled [] newest is = tt
filled (b ∷ bs) newest is = (is.0.has_entries, filled bs newest is.1)

pub invariant_of-result : goal.invariant_of-result
invariant_of-result c =
    subst AreFilled (sym c.iter.ensures.rest) (filled c.args.self.now.older.entries c.args.self.now.newest.entries c.requires.filed)
