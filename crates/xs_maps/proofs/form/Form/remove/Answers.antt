use Rattle.std.proofs.Common.{sym, ap, ◌∙◌, inl}
use Rattle.std.specs.BTreeMap.{is_at}
use Rattle.std.specs.Map.{remove_entry}
use Rattle.std_collections.specs.Layout.BTreeMap.{btree_map}
use Rattle.std_collections.proofs.TreeMap.Lookup.{updates_remove}
use Rattle.xs_maps.specs.Seen.{seen}
use Rattle.xs_maps.proofs.Sorted.{ordered-remove}
use Rattle.xs_maps.proofs.form.Form.remove.Goals as goal

pub returns-in-Few-clause-updates : goal.returns-in-Few-clause-updates
returns-in-Few-clause-updates g c =
    let compare = g.K.Ord.cmp c.args.key.now in
    updates_remove g.met.K.Ord.total compare (g.met.K.Ord.total.congr c.args.key.now) (seen c.args.self.now) (btree_map c.remove_few.new.few.items (inl tt)) c.requires
    (c.remove_few.ensures.entries ∙ ap (λ f. remove_entry (is_at compare) (seen f).entries) (sym c.in-Few.is))

pub returns-in-Few-clause-ordered : goal.returns-in-Few-clause-ordered
returns-in-Few-clause-ordered g c =
    let compare = g.K.Ord.cmp c.args.key.now in
    ordered-remove g.K.Ord.cmp (is_at compare) (seen c.args.self.now) (btree_map c.remove_few.new.few.items (inl tt)) c.requires
    (c.remove_few.ensures.entries ∙ ap (λ f. remove_entry (is_at compare) (seen f).entries) (sym c.in-Few.is))
