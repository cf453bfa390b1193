-- The final value of a map by names of which a `&mut` to a value is returned.
use Rattle.std.specs.Prelude.{Option}
use Rattle.std.specs.Borrow.{LendsIf, Fml, RattleType, MutBor}
use Rattle.xs_bytes.specs.SortedMap.{NameMap, insert}
use Rattle.xs_keys.specs.contracts.name_map.NameMap as name_map
use Rattle.xs_keys.specs.Event.{Bytes}

module _ (V : RattleType) where
  -- the last value written through r is put at the name; the map is unchanged if r is `None`
  abbrev pub lends_named_value : MutBor (NameMap V.Denot) → Bytes → Option (MutBor V.Denot) → Fml
  lends_named_value map name r = LendsIf (name_map.the_row V) V map r (λ w. insert map.now name w) map.now
