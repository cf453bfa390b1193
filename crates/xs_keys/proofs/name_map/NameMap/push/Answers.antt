use Rattle.std.proofs.Common.{◌≡◌, true, arith}
use Rattle.xs_keys.specs.NextName.{is_past_names}
use Rattle.xs_keys.proofs.LastNames.{name-behind}
use Rattle.xs_keys.proofs.name_map.NameMap.push.Goals as goal

pub returns-clause-behind : goal.returns-clause-behind
returns-clause-behind g c =
    let past : is_past_names c.args.name c.args.self.now ≡ true = grind arith in
    grind (arith, name-behind c.args.self.now c.args.name c.args.value past)
