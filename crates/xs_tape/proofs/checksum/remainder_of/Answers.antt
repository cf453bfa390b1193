use Rattle.std.proofs.Common.{refl}
use Rattle.xs_tape.proofs.checksum.remainder_of.Goals as goal

pub entry_of-requires : goal.entry_of-requires
entry_of-requires c = refl
