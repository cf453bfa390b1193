use Rattle.std.proofs.Common.{sym, ap, ◌∙◌, subst, inl}
use Rattle.std.specs.List.Sorted.{IsStrictlySortedBy}
use Rattle.std.specs.Map.{keys_of}
use Rattle.std.proofs.lemmas.Result.{on_ok_weaker}
use Rattle.std.specs.BTreeMap.{insert_entry}
use Rattle.std_collections.specs.Layout.BTreeMap.{btree_map}
use Rattle.xs_maps.specs.Seen.{seen}
use Rattle.xs_maps.proofs.Sorted.{updates-put, ordered-put, on-either}
use Rattle.xs_maps.proofs.form.Form.put.Goals as goal

pub returns-in-Few-clause-updates : goal.returns-in-Few-clause-updates
returns-in-Few-clause-updates g c =
    let old = seen c.args.self.now in
    let new = btree_map c.insert_few.new.few.items (inl tt) in
    on_ok_weaker c.insert_few.result (λ e. updates-put g.met.K.Ord.total c.args.key c.args.value old new c.requires (e ∙ ap (λ f. insert_entry g.K.Ord.cmp (seen f).entries c.args.key c.args.value) (sym c.in-Few.is))) c.insert_few.ensures.ok

pub returns-in-Few-clause-ordered : goal.returns-in-Few-clause-ordered
returns-in-Few-clause-ordered g c =
    let old = seen c.args.self.now in
    let new = btree_map c.insert_few.new.few.items (inl tt) in
    on-either c.insert_few.result c.insert_few.ensures.ok c.insert_few.ensures.err
    (λ e. ordered-put g.met.K.Ord.total c.args.key c.args.value old new c.requires (e ∙ ap (λ f. insert_entry g.K.Ord.cmp (seen f).entries c.args.key c.args.value) (sym c.in-Few.is)))
    (λ e. subst (λ es. IsStrictlySortedBy g.K.Ord.cmp (keys_of es)) (ap (λ f. (seen f).entries) c.in-Few.is ∙ sym e) c.requires)
