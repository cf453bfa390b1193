use Rattle.std.proofs.Common.{◌∷◌, [], ◌++◌, subst}
use Rattle.std.proofs.lemmas.Result.{on_ok_weaker}
use Rattle.xs_replay.specs.Pieces.{of_group}
use Rattle.xs_snapshot.specs.Writing.{pieces_of_rows, pieces_of_consumers, HasPutMore}
use Rattle.xs_snapshot.proofs.Putting.{one_put, both_put, rest_can}
use Rattle.xs_snapshot.proofs.writing.put_group.Goals as goal

pub returns-clause-more : goal.returns-clause-more
returns-clause-more g c =
    let old = c.args.writer.now in
    let group = c.args.group.now in
    let consumers = pieces_of_consumers group.consumers.entries in
    let rows = pieces_of_rows group.rows.entries in
    let header = subst (λ p. HasPutMore old c.put_group.new.self (p ∷ [])) (λ i. of_group (c.as_slice.ensures i) (c.cursor.ensures.value i))
    (one_put old c.put_group.new.self (of_group c.as_slice.result.now c.cursor.result) c.in_ok-put_group.ensures.has c.in_ok-put_group.ensures.count c.in_ok-put_group.ensures.sound) in
    on_ok_weaker c.put_rows.result (λ put. both_put old c.put_group.new.self c.put_rows.new.writer (of_group c.args.name.now group.cursor ∷ []) (consumers ++ rows) header
    (both_put c.put_group.new.self c.put_consumers.new.writer c.put_rows.new.writer consumers rows c.in_ok-put_consumers.ensures.more put)) c.put_rows.ensures.more

pub returns-clause-long : goal.returns-clause-long
returns-clause-long g c = λ e can.
    let old = c.args.writer.now in
    let group = c.args.group.now in
    let consumers = pieces_of_consumers group.consumers.entries in
    let rows = pieces_of_rows group.rows.entries in
    let header = subst (λ p. HasPutMore old c.put_group.new.self (p ∷ [])) (λ i. of_group (c.as_slice.ensures i) (c.cursor.ensures.value i))
    (one_put old c.put_group.new.self (of_group c.as_slice.result.now c.cursor.result) c.in_ok-put_group.ensures.has c.in_ok-put_group.ensures.count c.in_ok-put_group.ensures.sound) in
    c.put_rows.ensures.long e (rest_can c.put_group.new.self c.put_consumers.new.writer consumers rows c.in_ok-put_consumers.ensures.more
    (rest_can old c.put_group.new.self (of_group c.args.name.now group.cursor ∷ []) (consumers ++ rows) header can))
