use Rattle.std.proofs.Common.{sym, ap, ◌∙◌, refl, arith, inl}
use Rattle.std.specs.BTreeMap.{is_at}
use Rattle.std.specs.BTreeMap.Comparable.{le_lt_trans}
use Rattle.std.specs.Vec.{with_item}
use Rattle.std_collections.specs.Layout.BTreeMap.{seek, btree_map}
use Rattle.std_collections.proofs.Entries.{set_value_none}
use Rattle.std_collections.proofs.Seek.{seek-Ok, found_at, missing_at}
use Rattle.std_collections.proofs.TreeMap.Lookup.{writes_through}
use Rattle.xs_maps.specs.Seen.{seen_few}
use Rattle.xs_maps.proofs.Places.{set-value, value-found, nothing-found}
use Rattle.xs_maps.proofs.few.Few.get_mut.Goals as goal

pub index_mut-requires : goal.index_mut-requires
index_mut-requires g c =
    let within = (seek-Ok (g.K.Ord.cmp c.args.key.now) c.as_slice.result.now c.in-Ok.at (sym c.place.ensures ∙ c.in-Ok.is)).0 in
    let len = c.as_slice.ensures.len in
    omega arith

pub returns-in-Ok : goal.returns-in-Ok
returns-in-Ok g c =
    let total = g.met.K.Ord.total in
    let compare = g.K.Ord.cmp c.args.key.now in
    let m = seen_few c.args.self.now in
    let at = c.in-Ok.at in
    let entry = c.index_mut.result.now in
    let is = c.index_mut.ensures.value in
    let ok = ap (seek compare) (sym c.as_slice.ensures.value) ∙ sym c.place.ensures ∙ c.in-Ok.is in (
      (
        refl,
        (λ w. writes_through total compare (total.congr c.args.key.now) m
            (btree_map (with_item c.args.self.now.entries at (entry.0, w)).items (inl tt)) c.requires w
            (set-value m.entries at entry w is ∙ (found_at compare m.entries at ok).writes w)),
        refl,
      ),
      record { writes_back = tt; value = value-found compare m.entries at ok entry is },
    )

pub returns-in-Err : goal.returns-in-Err
returns-in-Err g c =
    let total = g.met.K.Ord.total in
    let key = c.args.key.now in
    let compare = g.K.Ord.cmp key in
    let m = seen_few c.args.self.now in
    let place = c.in-Err.field-0 in
    let err = ap (seek compare) (sym c.as_slice.ensures.value) ∙ sym c.place.ensures ∙ c.in-Err.is in
    let none = missing_at compare (le_lt_trans total key) m.entries place c.requires err in (
      (refl, (λ w. writes_through total compare (total.congr key) m m c.requires w (sym (set_value_none (is_at compare) m.entries w none))), refl),
      record { writes_back = tt; value = (nothing-found total key m.entries place c.requires err).0 },
    )
