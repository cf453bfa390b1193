use Rattle.std.proofs.Common.{ℕ, List, sym, ap, ◌∙◌, BTreeMap}
use Rattle.xs_bytes.specs.MapOf.{from_entries}
use Rattle.xs_keys.proofs.CodeMaps.{get-entries, insert-entries, same-loan}
use Rattle.xs_keys.proofs.name_map.NameMap.get_mut.Goals as goal

pub returns : goal.returns
returns g c =
    let map = c.self.inside.entries in
    let name = c.args.name.now in
    rw (← c.self.view_is) (
      same-loan c.get_mut.result _ _ _ _ _ c.get_mut.ensures.value
          (λ there w. insert-entries map (c.get_mut.follows.lender w) name w ((c.get_mut.follows.holds w).3 there))
          (ap (λ (m : BTreeMap (List ℕ) g.row.V.Denot). from_entries m.entries) c.get_mut.follows.holds-at-none),
      record { writes_back = tt; value = c.get_mut.ensures.value ∙ sym (get-entries map name) },
    )
