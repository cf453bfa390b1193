use Rattle.std.proofs.Common.{sym}
use Rattle.xs_stream.proofs.PackedCodes.{length-fields_in}
use Rattle.xs_stream.proofs.packed.fields.PackedFields.count_left.Goals as goal

pub returns : goal.returns
returns c = rw (← c.self.view_is) (sym (length-fields_in _ _ _ _))
