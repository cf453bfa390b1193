use Rattle.std.proofs.Common.{sym, ap, ◌∙◌, arith}
use Rattle.std_collections.specs.Layout.BTreeMap.{seek}
use Rattle.std_collections.proofs.Seek.{seek-Ok}
use Rattle.xs_maps.proofs.Places.{value-found, nothing-found}
use Rattle.xs_maps.proofs.few.value_in.Goals as goal

pub index-requires : goal.index-requires
index-requires g c =
    let within = (seek-Ok (g.K.Ord.cmp c.args.key.now) c.as_slice.result.now c.in-Ok.at (sym c.place.ensures ∙ c.in-Ok.is)).0 in
    let len = c.as_slice.ensures.len in
    omega arith

pub returns-in-Ok : goal.returns-in-Ok
returns-in-Ok g c =
    let compare = g.K.Ord.cmp c.args.key.now in
    let items = c.args.few.now.items in
    let ok = ap (seek compare) (sym c.as_slice.ensures.value) ∙ sym c.place.ensures ∙ c.in-Ok.is in
    value-found compare items c.in-Ok.at ok c.index.result.now c.index.ensures

pub returns-in-Err : goal.returns-in-Err
returns-in-Err g c =
    let compare = g.K.Ord.cmp c.args.key.now in
    let items = c.args.few.now.items in
    let err = ap (seek compare) (sym c.as_slice.ensures.value) ∙ sym c.place.ensures ∙ c.in-Err.is in
    (nothing-found g.met.K.Ord.total c.args.key.now items c.in-Err.field-0 c.requires err).0
