use Rattle.std.proofs.Common.{subst}
use Rattle.xs_keys.specs.Content.{Content}
use Rattle.xs_keys.specs.KeysRoom.{IsRoomOf}
use Rattle.xs_keys.proofs.keyspace.Keyspace.bytes_held.Goals as goal

pub returns : goal.returns
returns c = subst (λ (content : Content). IsRoomOf content c.bytes_held.result) c.self.view_is c.bytes_held.ensures
