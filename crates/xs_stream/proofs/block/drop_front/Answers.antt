use Rattle.std.proofs.Common.{◌≡◌, ℕ, ◌<◌, ◌≤◌, ◌++◌, ◌∷◌, [], List, length, drop, slice_set, ap, arith}
use Rattle.std.specs.List.{remove_range}
use Rattle.xs_stream.specs.PackedNumber.{number_code}
use Rattle.xs_stream.specs.PackedText.{text_code}
use Rattle.xs_stream.proofs.block.drop_front.Goals as goal

set-front : (bytes new : List ℕ) (start : ℕ) → start ≤ length bytes → 0 < start → new ≡ remove_range bytes 1 start → slice_set new 0 0 ≡ text_code [] ++ drop start bytes
unfolding text_code number_code
set-front [] new start inside some e = absurd (omega arith)
set-front (x ∷ bytes) new start inside some e = ap (λ (b : List ℕ). slice_set b 0 0) e

pub returns : goal.returns
returns c = set-front c.args.bytes.now.items c.cut.new.bytes.items c.args.start (omega (arith, c.requires.inside)) c.requires.some c.cut.ensures
