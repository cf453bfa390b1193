use Rattle.std.proofs.Common.{◌∷◌, [], ◌++◌, subst}
use Rattle.std.proofs.lemmas.Result.{on_ok_weaker}
use Rattle.xs_replay.specs.Pieces.{of_key}
use Rattle.xs_snapshot.specs.Writing.{pieces_of_entries, pieces_of_groups, HasPutMore}
use Rattle.xs_snapshot.proofs.Putting.{one_put, both_put, rest_can}
use Rattle.xs_snapshot.proofs.writing.put_key.Goals as goal

pub returns-clause-more : goal.returns-clause-more
returns-clause-more g c =
    let old = c.args.writer.now in
    let stream = c.slot.inside.stream in
    let entries = pieces_of_entries stream.entries in
    let groups = pieces_of_groups c.slot.inside.groups.entries in
    let header = subst (λ p. HasPutMore old c.put_key.new.self (p ∷ [])) (λ i. of_key (c.as_slice.ensures i) (c.top.ensures.value i) (c.added.ensures i) (c.deleted.ensures i))
    (one_put old c.put_key.new.self (of_key c.as_slice.result.now c.top.result c.added.result c.deleted.result) c.in_ok-put_key.ensures.has c.in_ok-put_key.ensures.count c.in_ok-put_key.ensures.sound) in
    rw (← c.slot.view_is) (on_ok_weaker c.put_groups.result (λ put. both_put old c.put_key.new.self c.put_groups.new.writer (of_key c.args.name.now stream.top stream.added stream.deleted ∷ []) (entries ++ groups) header
    (both_put c.put_key.new.self c.put_entries.new.writer c.put_groups.new.writer entries groups c.in_ok-put_entries.ensures.more put)) c.put_groups.ensures.more)

pub returns-clause-long : goal.returns-clause-long
returns-clause-long g c =
    let old = c.args.writer.now in
    let stream = c.slot.inside.stream in
    let entries = pieces_of_entries stream.entries in
    let groups = pieces_of_groups c.slot.inside.groups.entries in
    let header = subst (λ p. HasPutMore old c.put_key.new.self (p ∷ [])) (λ i. of_key (c.as_slice.ensures i) (c.top.ensures.value i) (c.added.ensures i) (c.deleted.ensures i))
    (one_put old c.put_key.new.self (of_key c.as_slice.result.now c.top.result c.added.result c.deleted.result) c.in_ok-put_key.ensures.has c.in_ok-put_key.ensures.count c.in_ok-put_key.ensures.sound) in
    rw (← c.slot.view_is) (λ e can. c.put_groups.ensures.long e (rest_can c.put_key.new.self c.put_entries.new.writer entries groups c.in_ok-put_entries.ensures.more
    (rest_can old c.put_key.new.self (of_key c.args.name.now stream.top stream.added stream.deleted ∷ []) (entries ++ groups) header can)))
