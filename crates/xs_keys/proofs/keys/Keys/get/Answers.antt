use Rattle.std.proofs.Common.{sym, ap, ◌∙◌}
use Rattle.xs_keys.specs.KeysRoom.{state_in}
use Rattle.xs_keys.proofs.KeysContent.{get-content}
use Rattle.xs_keys.proofs.keys.Keys.get.Goals as goal

pub returns : goal.returns
returns c = rw (← c.self.view_is) (ap state_in c.get.ensures ∙ sym (get-content c.self.inside.slots c.args.key.now))
