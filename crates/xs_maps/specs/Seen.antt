-- How contracts see a map, in a vector or a tree.
use Rattle.std.proofs.Common.{inl}
use Rattle.std_collections.specs.Layout.BTreeMap.{BTreeMap, btree_map}
use Rattle.xs_maps.specs.declared.few.Few as few
use Rattle.xs_maps.specs.declared.form.Form.{Form}
use Rattle.xs_maps.specs.declared.form.Form.TheVariants.{Few, Many}

module _ {K X : Type 0} where
  abbrev pub seen_few : few.Few K X → BTreeMap K X
  seen_few f = btree_map f.entries.items (inl tt)

  abbrev pub seen : Form K X → BTreeMap K X
  seen (Few f) = seen_few f
  seen (Many m) = m
