use Rattle.std.proofs.Common.{◌∙◌}
use Rattle.xs_keys.proofs.keys.Keys.bytes_held.Goals as goal

pub returns : goal.returns
returns c = (c.self.inside.slots, c.self.view_is, c.held.ensures ∙ c.self.invariant)
