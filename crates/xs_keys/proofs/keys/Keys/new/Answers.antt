use Rattle.std.proofs.Common.{sym, ap, ◌∙◌, ◌%◌, ◌^◌}
use Rattle.xs_keys.specs.KeysRoom.{content_of, room_of_keys}
use Rattle.xs_keys.proofs.KeysContent.{content-empty}
use Rattle.xs_keys.proofs.CountedKeys.{counted-none}
use Rattle.xs_keys.proofs.keys.Keys.new.Goals as goal

pub invariant_of-result : goal.invariant_of-result
invariant_of-result c = c.new-2.ensures.held ∙ counted-none ∙ ap (λ m. room_of_keys m % 2 ^ 128) (sym c.new.ensures)

pub returns : goal.returns
returns c = ap content_of c.new.ensures ∙ content-empty
