use Rattle.std.proofs.Common.{rules, ◌≡◌, true, [], ◌∷◌, subst}
use Rattle.std.specs.Option.{is_some}
use mathlib.Core.List.{IsPrefix}
use Rattle.rtrb.specs.Ring.{known_items}
use Rattle.xs_keys.specs.Terms.{ReadGroup}
use Rattle.xs_desk.specs.Calls.{asked_by}
use Rattle.xs_desk.proofs.Lists.{prefix_map}
use Rattle.xs_desk.proofs.lane_end.LaneEnd.wish.Goals as goal

pub returns-in-Ok-true : goal.returns-in-Ok-true
returns-in-Ok-true c =
    let calls = known_items c.args.self.now.calls in
    let blocks : is_some c.in-ReadGroup.read.block ≡ true = search rules in (
      ReadGroup c.in-ReadGroup.read,
      subst (λ command. IsPrefix (command ∷ []) (asked_by calls)) c.in-ReadGroup.is (prefix_map (λ call. call.command) (c.peek_known.result.now ∷ []) calls c.peek_known.ensures),
      blocks,
      c.in-Ok-true.ensures.null c.in-Ok-true.field-0-test,
    )
