use Rattle.std.proofs.Common.{List, ◌++◌, ◌∷◌, codes, length, map, None}
use Rattle.xs_stream.specs.StreamContent.{state_of}
use Rattle.xs_keys.specs.Terms.{Reply, Bulk, consumer_reports}
use Rattle.xs_keys.specs.Inspecting.{progress_part}
use Rattle.xs_keys.specs.InspectingInFull.{first_rows, rows_part, listed_part, whole_consumer_reply}
use Rattle.xs_keys.proofs.Appending.{appended, appended-last, parts-appended, parts-appended-last}
use Rattle.xs_keys.proofs.xinfo_full.push_group.Goals as goal

pub returns : goal.returns
returns c =
    let now = c.args.asked.now.moment in
    let limit = c.args.asked.now.limit in
    let group = c.args.group.now in
    let header = c.push_array.new.self in
    let head : List Reply = Bulk (codes "name") ∷ Bulk c.args.name.now ∷ progress_part (state_of c.args.stream.now) group.cursor in
    let rows : List Reply = rows_part (length group.rows.entries) (first_rows now limit None group) in
    let consumers : List Reply = listed_part (codes "consumers") (map (whole_consumer_reply now limit group) (consumer_reports now group)) in
    let name = appended header _ _ _ _ c.in_ok-push_bulk.ensures.ok (rw c.as_slice.ensures at c.in_ok-push_bulk-2.ensures.ok) in
    let progress = appended header _ _ _ _ name (rw c.cursor.ensures.value at c.in_ok-push_progress.ensures) in
    appended-last c.push_group_consumers.result c.args.tokens.now _ header _ _ c.in_ok-push_array.ensures.ok
    (parts-appended-last c.push_group_consumers.result header _ _ (head ++ rows) consumers (parts-appended header _ _ head rows progress c.in_ok-push_group_rows.ensures) c.push_group_consumers.ensures)
