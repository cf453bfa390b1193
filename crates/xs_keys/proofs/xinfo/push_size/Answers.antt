use Rattle.xs_keys.proofs.Appending.{appended, appended-last}
use Rattle.xs_keys.proofs.xinfo.push_size.Goals as goal

pub returns : goal.returns
returns c =
    let before = c.args.tokens.now in
    let length = rw c.len-length.ensures.value at c.in_ok-push_number.ensures in
    let nodes = rw (c.min-nodes.ensures, c.len-length.ensures.value) at c.in_ok-push_number-2.ensures in
    let more = appended before _ _ _ _ length nodes in
    appended-last c.push_number-3.result before _ _ _ _ more (rw (c.min-nodes.ensures, c.len-length.ensures.value) at c.push_number-3.ensures)
