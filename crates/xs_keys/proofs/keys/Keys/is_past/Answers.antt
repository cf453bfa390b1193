use Rattle.std.proofs.Common.{sym, ◌∙◌}
use Rattle.xs_keys.proofs.KeysContent.{past-content}
use Rattle.xs_keys.proofs.keys.Keys.is_past.Goals as goal

pub returns : goal.returns
returns c = rw (← c.self.view_is) (c.is_past.ensures ∙ sym (past-content c.self.inside.slots c.args.key.now))
