use Rattle.std.proofs.Common.{rules, ◌≡◌}
use Rattle.std.specs.List.{flat_map}
use Rattle.xs_resp.specs.ReplyItems.{tokens_of}
use Rattle.xs_resp.specs.Whole.{AreItems}
use Rattle.xs_resp.proofs.Wholeness.{items-whole}
use Rattle.xs_connection.specs.Standing.{greeting}
use Rattle.xs_connection.proofs.standing.greeting.Goals as goal

pub new-requires-2 : goal.new-requires-2
unfolding AreItems
new-requires-2 c =
    let is : c.push_array.new.self ≡ flat_map tokens_of (greeting c.args.id) = search rules in
    rw is (items-whole (greeting c.args.id) (tt, (tt, (tt, (tt, (tt, (tt, (tt, (tt, (tt, (tt, (tt, (tt, (tt, (tt, tt)))))))))))))))
