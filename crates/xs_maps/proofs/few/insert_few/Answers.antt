use Rattle.std.proofs.Common.{length, sym, ap, ◌∙◌, arith}
use Rattle.std.specs.List.{insert}
use Rattle.std_collections.specs.Layout.BTreeMap.{seek}
use Rattle.std_collections.proofs.Seek.{seek-Ok, seek_err, insert_entry-Ok, insert_entry_err}
use Rattle.xs_maps.proofs.Places.{set-value}
use Rattle.xs_maps.proofs.few.insert_few.Goals as goal

pub index_mut-requires : goal.index_mut-requires
index_mut-requires g c =
    let within = (seek-Ok (g.K.Ord.cmp c.args.key) c.as_slice.result.now c.in-Ok.at (sym c.place.ensures ∙ c.in-Ok.is)).0 in
    let len = c.as_slice.ensures.len in
    omega arith

pub insert-requires : goal.insert-requires
insert-requires g c =
    let within = (seek_err (g.K.Ord.cmp c.args.key) c.as_slice.result.now c.in-Err.at (sym c.place.ensures ∙ c.in-Err.is)).0 in
    let same = ap length (c.as_slice.ensures.value ∙ sym c.double.ensures) in
    let len = c.double.new.full.ok in
    omega arith

pub returns-in-Ok-clause-ok : goal.returns-in-Ok-clause-ok
returns-in-Ok-clause-ok g c =
    let compare = g.K.Ord.cmp c.args.key in
    let items = c.args.few.now.items in
    let ok = ap (seek compare) (sym c.as_slice.ensures.value) ∙ sym c.place.ensures ∙ c.in-Ok.is in
    set-value items c.in-Ok.at c.index_mut.result.now c.args.value c.index_mut.ensures.value
    ∙ insert_entry-Ok g.K.Ord.cmp c.args.key c.args.value items c.in-Ok.at ok

pub returns-in_ok-insert-in-Err-clause-ok : goal.returns-in_ok-insert-in-Err-clause-ok
returns-in_ok-insert-in-Err-clause-ok g c =
    let compare = g.K.Ord.cmp c.args.key in
    let items = c.args.few.now.items in
    let err = ap (seek compare) (sym c.as_slice.ensures.value) ∙ sym c.place.ensures ∙ c.in-Err.is in
    c.in_ok-insert-in-Err.ensures.items ∙ ap (λ es. insert es c.in-Err.at (c.args.key, c.args.value)) c.double.ensures
    ∙ insert_entry_err g.K.Ord.cmp c.args.key c.args.value items c.in-Err.at err
