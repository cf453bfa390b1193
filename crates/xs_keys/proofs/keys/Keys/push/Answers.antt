use Rattle.std.proofs.Common.{◌≡◌, true, arith}
use Rattle.xs_keys.specs.KeysRoom.{key_state_of}
use Rattle.xs_keys.specs.NextName.{is_past_names}
use Rattle.xs_keys.proofs.LastNames.{none-past, name-behind}
use Rattle.xs_keys.proofs.keys.Keys.push.Goals as goal

pub insert-requires : goal.insert-requires
insert-requires c =
    let past : is_past_names c.args.key c.args.self.now ≡ true = grind arith in
    none-past c.args.self.now c.args.key past

pub returns-clause-behind : goal.returns-clause-behind
returns-clause-behind c =
    let past : is_past_names c.args.key c.args.self.now ≡ true = grind arith in
    grind (arith, name-behind c.args.self.now c.args.key (key_state_of c.args.slot) past)
