use Rattle.std.proofs.Common.{subst}
use Rattle.xs_keys.specs.KeysRoom.{IsRoomOf}
use Rattle.xs_desk.specs.ServedCalls.{Desk}
use Rattle.xs_desk.proofs.keeper.Keeper.bytes_held.Goals as goal

pub returns : goal.returns
returns g c = subst (λ (desk : Desk). IsRoomOf desk.keyspace c.bytes_held.result) c.self.view_is c.bytes_held.ensures
