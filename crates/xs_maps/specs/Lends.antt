-- The final value of a map of which a `&mut` to a value is returned.
use Rattle.std.specs.Prelude.{◌≡◌, Bool, Option}
use Rattle.std.specs.Borrow.{LendsSo, Fml, RattleType, MutBor}
use Rattle.std.specs.BTreeMap.{WritesThrough}
use Rattle.std.specs.declared.cmp.Ordering.{Ordering}
use Rattle.xs_maps.specs.Seen.{seen, seen_few}
use Rattle.xs_maps.specs.declared.few.Few.{Few}
use Rattle.xs_maps.specs.declared.form.Form.{Form}
use Rattle.xs_maps.specs.declared.small_map.SmallMap.{SmallMap}
use Rattle.xs_maps.specs.contracts.few.Few as few
use Rattle.xs_maps.specs.contracts.form.Form as form
use Rattle.xs_maps.specs.contracts.small_map.SmallMap as map

-- the type of K.Ord in a clause
abbrev pub OrdMembers : Type 0 → Type 0
OrdMembers K = record { partial_cmp : K → K → Option Ordering; eq : K → K → Bool; cmp : K → K → Ordering }

module _ (K V : RattleType) (o : OrdMembers K.Denot) where
  abbrev pub form_row : RattleType
  form_row = form.the_row K V (record { cmp = o.cmp }) (record { eq = o.eq }) (record { partial_cmp = o.partial_cmp })

  abbrev pub map_row : RattleType
  map_row = map.the_row K V (record { cmp = o.cmp }) (record { eq = o.eq }) (record { partial_cmp = o.partial_cmp })

  -- the entries have the last value written through r at the key, and stay as they are if r is `None`
  abbrev pub lends_in_few : MutBor (Few K.Denot V.Denot) → K.Denot → Option (MutBor V.Denot) → Fml
  lends_in_few f key r =
      LendsSo (few.the_row K V) V f r (λ n w. WritesThrough o.cmp (o.cmp key) (seen_few f.now) w (seen_few n))
      (λ n. n ≡ f.now)

  -- the same for the entries of a form
  abbrev pub lends_in_form : MutBor (Form K.Denot V.Denot) → K.Denot → Option (MutBor V.Denot) → Fml
  lends_in_form f key r =
      LendsSo form_row V f r (λ n w. WritesThrough o.cmp (o.cmp key) (seen f.now) w (seen n)) (λ n. seen n ≡ seen f.now)

  -- the same for a map
  abbrev pub lends_value : MutBor (SmallMap K.Denot V.Denot) → K.Denot → Option (MutBor V.Denot) → Fml
  lends_value m key r = LendsSo map_row V m r (λ n w. WritesThrough o.cmp (o.cmp key) m.now w n) (λ n. n ≡ m.now)
