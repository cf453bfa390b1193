use Rattle.std.proofs.Common.{sym, ◌∙◌}
use Rattle.xs_keys.proofs.KeysContent.{length-content}
use Rattle.xs_keys.proofs.keys.Keys.len.Goals as goal

pub returns-clause-value : goal.returns-clause-value
returns-clause-value c = rw (← c.self.view_is) (c.len.ensures.value ∙ sym (length-content c.self.inside.slots))
