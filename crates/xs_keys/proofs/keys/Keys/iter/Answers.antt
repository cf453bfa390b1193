use Rattle.std.proofs.Common.{sym, ap, ◌∙◌}
use Rattle.xs_keys.proofs.KeysContent.{states, entries-content}
use Rattle.xs_keys.proofs.keys.Keys.iter.Goals as goal

pub returns : goal.returns
returns c = rw (← c.self.view_is) (ap states c.iter.ensures ∙ sym (entries-content c.self.inside.slots))
