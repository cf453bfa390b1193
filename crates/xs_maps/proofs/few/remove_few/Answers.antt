use Rattle.std.proofs.Common.{sym, ap, ◌∙◌, arith}
use Rattle.std_collections.specs.Layout.BTreeMap.{seek}
use Rattle.std_collections.proofs.Seek.{seek-Ok, found_at}
use Rattle.xs_maps.proofs.Places.{value-found, nothing-found}
use Rattle.xs_maps.proofs.few.remove_few.Goals as goal

pub remove-value-requires : goal.remove-value-requires
remove-value-requires g c =
    let within = (seek-Ok (g.K.Ord.cmp c.args.key.now) c.as_slice.result.now c.in-Ok.at (sym c.place.ensures ∙ c.in-Ok.is)).0 in
    let len = c.as_slice.ensures.len in
    omega arith

pub returns-in-Ok-clause-value : goal.returns-in-Ok-clause-value
returns-in-Ok-clause-value g c =
    let compare = g.K.Ord.cmp c.args.key.now in
    let items = c.args.few.now.items in
    let ok = ap (seek compare) (sym c.as_slice.ensures.value) ∙ sym c.place.ensures ∙ c.in-Ok.is in
    value-found compare items c.in-Ok.at ok c.remove-value.result c.remove-value.ensures.value

pub returns-in-Ok-clause-entries : goal.returns-in-Ok-clause-entries
returns-in-Ok-clause-entries g c =
    let compare = g.K.Ord.cmp c.args.key.now in
    let items = c.args.few.now.items in
    let ok = ap (seek compare) (sym c.as_slice.ensures.value) ∙ sym c.place.ensures ∙ c.in-Ok.is in
    c.halve.ensures ∙ c.remove-value.ensures.items ∙ (found_at compare items c.in-Ok.at ok).removes

pub returns-in-Err-clause-value : goal.returns-in-Err-clause-value
returns-in-Err-clause-value g c =
    let compare = g.K.Ord.cmp c.args.key.now in
    let items = c.args.few.now.items in
    let err = ap (seek compare) (sym c.as_slice.ensures.value) ∙ sym c.place.ensures ∙ c.in-Err.is in
    (nothing-found g.met.K.Ord.total c.args.key.now items c.in-Err.field-0 c.requires err).0

pub returns-in-Err-clause-entries : goal.returns-in-Err-clause-entries
returns-in-Err-clause-entries g c =
    let compare = g.K.Ord.cmp c.args.key.now in
    let items = c.args.few.now.items in
    let err = ap (seek compare) (sym c.as_slice.ensures.value) ∙ sym c.place.ensures ∙ c.in-Err.is in
    (nothing-found g.met.K.Ord.total c.args.key.now items c.in-Err.field-0 c.requires err).1
